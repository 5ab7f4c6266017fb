-- What each order does with its files, its input and its output, and how it ends. An output held this,
-- and holds that.
use Rattle.std.specs.Prelude.{◌≡◌, ◌+◌, ℕ, List, Option, IfSome, take, ◌*ℤ◌, ◌+ℤ◌, min, neg_ℤ, pos, ℤ, map, ◌⊎◌, Bool, true, false, Result, Ok, Err, IfOk}
use Rattle.std.specs.Prelude.{string_bytes, IfErr, [], ◌∷◌, ◌≤◌, ⊤, length}
use Rattle.std.specs.Io.KnownBytes.{Appends, Keeps}
use Rattle.std.specs.Net.Addr.{ipv4_octets}
use Rattle.std.specs.Net.Socket.{v4_ip, v4_port}
use Rattle.std.specs.declared.net.socket_addr.SocketAddr.{SocketAddr}
use Rattle.sqlite_trees.specs.declared.store.Store.{Ghosts}
use Rattle.sqlite.specs.Files.{over_files}
use Rattle.sqlite.specs.Held.{Held}
use Rattle.sqlite.specs.Steps.{over_memory}
use Rattle.sqlite_disk.specs.declared.Disk as disk
use Rattle.sqlite_store.specs.declared.store.FileStore.{FileStore}
use Rattle.sqlite_trees.specs.declared.memory.MemStore.{MemStore}
use Rattle.sqlite_wal.specs.Recovery.{Image}
use Rattle.farm_types.specs.Names.{longest_lab_file, Farm, queue, shown_claim, empty_farm}
use Rattle.farm_keep.specs.KeeperState.{KeeperState, KeepsOwnFarm}
use Rattle.farm_keep.specs.declared.fault.KeepFault.{KeepFault}
use Rattle.farm_cli.specs.declared.order.Report.{Report}
use Rattle.farm_report.specs.Moments.{most_minutes}
use Rattle.farm_report.specs.Lines.{AreLines, IsBoardLine, IsReservationLine, claims_text}
use Rattle.farm_cli.specs.declared.order.Database.{Database}
use Rattle.farm_cli.specs.declared.order.Order.{Order}
use Rattle.farm_serve.specs.Connections.{AreServedInTurn, Connection}
use Rattle.farm_serve.specs.Conversations.{Converses, Desk, IsComplete, desk}
use Rattle.farm_serve.specs.Ends.{Writes}
use Rattle.farm_serve.specs.Serving.{ServesClients, ServesUntil}
use Rattle.farm_serve.specs.declared.fault.DeskFault.{DeskFault}
use Rattle.farm_serve.specs.Imports.{IsImport}
use Rattle.farm_serve.specs.declared.lab_import.ImportEnd.{ImportEnd}
use Rattle.farm_desk.specs.Faults.{ended_order}
use Rattle.farm_desk.specs.Lines.{PrintsImport, port_line, migrated_line, ready_line, PrintsLine}
use Rattle.farm_desk.specs.declared.orders.End.{End}
use Rattle.farm_desk.specs.declared.orders.Task.{Task}
use Rattle.farm_desk.specs.InFiles.{FindsFarm, IsOpenFault, MakesFarm, IsUpgradeFault, RaisesFarm}

-- ---- what is read of a lab file, and what a report lists of a farm

-- the text of a lab file whose bytes may be known: of one beyond its limit these are the bytes up to
-- the first too many
abbrev pub IsTextOf : Option (List ℕ) → List ℕ → Type 0
IsTextOf lab text = IfSome lab (λ bytes. text ≡ take (longest_lab_file + 1) bytes)

-- the lines of the report, with moments so many seconds ahead of UTC
abbrev pub Reports : Report → ℤ → Farm → List ℕ → Type 0
Reports Report.Queue ahead F text = text ≡ claims_text (map shown_claim (queue F))
Reports Report.Boards ahead F text = AreLines (IsBoardLine ahead) F.boards text
Reports Report.Reservations ahead F text = AreLines (IsReservationLine ahead) F.reservations text

-- so many minutes east of UTC and so many west, in seconds ahead of it; each counts as the most
-- where it is more
abbrev pub seconds_ahead : ℕ → ℕ → ℤ
seconds_ahead east west =
    (pos (min east most_minutes) +ℤ neg_ℤ (pos (min west most_minutes))) *ℤ pos 60

-- ---- what is done with a farm that is there, by the task

-- the store failed
abbrev pub store_failed : DeskFault
store_failed = DeskFault.Keep KeepFault.Store

-- nothing is done, for this reason
pub record DoesNothing {S : Type 0} (old new : KeeperState S) (held holds : Option (List ℕ))
    (fault : DeskFault) (result : Result End DeskFault) : Type 0 where
  pub fault_is : result ≡ Err fault
  pub unchanged : new ≡ old
  pub nothing_written : Keeps held holds

-- one conversation at this moment: the order ends as the conversation does
pub record AnswersOne {S : Type 0} (g : Ghosts S) (old new : Desk S) (now : ℕ) (Sure : Type 0)
    (Room : ℕ → Type 0) (result : Result End DeskFault) : Type 0 where
  pub end : Result ℕ DeskFault
  pub converses : Converses g old new now end
  pub complete : IsComplete g old new now Sure Room end
  pub ends : result ≡ ended_order end

-- a lab file's text is imported at that moment, and what was done is printed
pub record ImportsText {S : Type 0} (g : Ghosts S) (Room : ℕ → Type 0) (lab : Option (List ℕ))
    (old new : KeeperState S) (held holds : Option (List ℕ)) (now : ℕ)
    (result : Result End DeskFault) : Type 0 where
  pub text : List ℕ
  pub text_of : IsTextOf lab text
  pub imported : ImportEnd
  pub imports : IsImport g old new text now imported
  pub prints : PrintsImport Room imported held holds result

-- it is, or nothing is done since no text can be read
abbrev pub ImportsFile : {S : Type 0} → Ghosts S → (ℕ → Type 0) → Option (List ℕ) → KeeperState S
    → KeeperState S → Option (List ℕ) → Option (List ℕ) → ℕ → Result End DeskFault → Type 0
ImportsFile g Room lab old new held holds now result =
    ImportsText g Room lab old new held holds now result
    ⊎ (DoesNothing old new held holds DeskFault.NoMemory result
    ⊎ DoesNothing old new held holds DeskFault.Read result)

-- the report of a farm is printed, with moments so many minutes east and west of UTC; or the
-- output, which has such room, failed
pub record PrintsReport (Room : ℕ → Type 0) (failed : Bool) (F : Farm) (held holds : Option (List ℕ))
    (east west : ℕ) (which : Report) : Type 0 where
  pub text : List ℕ
  pub reports : Reports which (seconds_ahead east west) F text
  pub printed : Writes Room failed held holds text

-- it is, of an open keeper's farm; or nothing is printed, since there was no memory or the keeper
-- was closed
abbrev pub PrintsReportOf : {S : Type 0} → (ℕ → Type 0) → KeeperState S → Option (List ℕ)
    → Option (List ℕ) → ℕ → ℕ → Report → Result End DeskFault → Type 0
PrintsReportOf Room k held holds east west which (Ok end) =
    (end ≡ End.Done) × PrintsReport Room false k.farm.farm held holds east west which
PrintsReportOf Room k held holds east west which (Err DeskFault.Write) =
    PrintsReport Room true k.farm.farm held holds east west which
PrintsReportOf Room k held holds east west which (Err DeskFault.NoMemory) = holds ≡ held
PrintsReportOf Room k held holds east west which (Err (DeskFault.Keep KeepFault.Closed)) =
    (k.is_open ≡ false) × (holds ≡ held)
PrintsReportOf Room k held holds east west which (Err fault) = ⊥

-- the address is a port of 127.0.0.1
abbrev pub IsLocal : SocketAddr → ℕ → Type 0
IsLocal (SocketAddr.V4 it) port =
    (ipv4_octets (v4_ip it) ≡ 127 ∷ 0 ∷ 0 ∷ 1 ∷ []) × (v4_port it ≡ port)
IsLocal (SocketAddr.V6 it) port = ⊥

-- clients were conversed with one after another, at most so many, each over what came of its request
pub record HearsClients {S : Type 0} (g : Ghosts S) (old new : KeeperState S) (max : ℕ) : Type 0 where
  pub connections : List Connection
  pub few : length connections ≤ max
  pub in_turn : AreServedInTurn g ⊤ connections old new

-- the port is printed, and then at most so many connections are served
pub record ServesPort {S : Type 0} (g : Ghosts S) (old new : KeeperState S)
    (held holds : Option (List ℕ)) (port max : ℕ) (result : Result End DeskFault) : Type 0 where
  pub printed : Appends held holds (port_line port)
  pub clients : HearsClients g old new max
  pub serves : ServesUntil g old new max result
  pub done : IfOk result (λ end. end ≡ End.Done)

-- the port can't be printed, and nobody is served
pub record PrintsNoPort {S : Type 0} (Room : ℕ → Type 0) (old new : KeeperState S)
    (held holds : Option (List ℕ)) (port : ℕ) (result : Result End DeskFault) : Type 0 where
  pub ends : result ≡ Err DeskFault.Write
  pub unchanged : new ≡ old
  pub printed : Writes Room true held holds (port_line port)

-- it is served, but the farm's files were lost meanwhile, which is a fault of the store
pub record LosesFiles {S : Type 0} (g : Ghosts S) (old new : KeeperState S)
    (held holds : Option (List ℕ)) (port max : ℕ) (result : Result End DeskFault) : Type 0 where
  pub printed : Appends held holds (port_line port)
  pub clients : HearsClients g old new max
  pub serves : ServesClients g old new max
  pub ends : result ≡ Err store_failed

-- it is served, or nothing is done since nobody can listen on the port, since it can't be printed, or
-- since the files can't be looked at
abbrev pub ServesIfThere : {S : Type 0} → Ghosts S → (ℕ → Type 0) → KeeperState S
    → KeeperState S → Option (List ℕ) → Option (List ℕ) → ℕ → ℕ → Result End DeskFault → Type 0
ServesIfThere g Room old new held holds port max result =
    ServesPort g old new held holds port max result
    ⊎ (DoesNothing old new held holds DeskFault.Read result
    ⊎ (PrintsNoPort Room old new held holds port result
    ⊎ (LosesFiles g old new held holds port max result
    ⊎ ((new ≡ old) × (holds ≡ held) × (result ≡ Err store_failed)))))

-- what a task makes of a keeper, an input and an output, over lab files whose bytes may be known at
-- their paths, a reader that never fails and a writer with such room
abbrev pub DoesTask : {S : Type 0} → Ghosts S → (List ℕ → Option (List ℕ)) → Task → Desk S → Desk S
    → Type 0 → (ℕ → Type 0) → Result End DeskFault → Type 0
DoesTask g labs (Task.Answer at) old new Sure Room result =
    AnswersOne g old new at Sure Room result
DoesTask g labs (Task.Import at lab) old new Sure Room result = (new.input ≡ old.input)
    × ImportsFile g Room (labs (string_bytes lab)) old.keeper new.keeper old.output new.output at
    result
DoesTask g labs (Task.Report east west which) old new Sure Room result = (new.input ≡ old.input)
    × (new.keeper ≡ old.keeper)
    × PrintsReportOf Room old.keeper old.output new.output east west which result
DoesTask g labs (Task.Serve port max) old new Sure Room result = (new.input ≡ old.input)
    × ServesIfThere g Room old.keeper new.keeper old.output new.output port max result

-- ---- an input and an output

-- what is left of the one, and what the other holds
pub record Streams : Type 0 where
  pub input : Option (List ℕ)
  pub output : Option (List ℕ)

abbrev pub streams : Option (List ℕ) → Option (List ℕ) → Streams
streams input output = record { input = input; output = output }

-- a keeper with them
abbrev pub desk_at : {S : Type 0} → KeeperState S → Streams → Desk S
desk_at keeper at = desk keeper at.input at.output

-- ---- what is opened

-- an open keeper of the empty farm, whose store keeps it; or there was no memory, or no store
abbrev pub OpensMemory : Result (KeeperState MemStore) DeskFault → Type 0
OpensMemory (Ok k) = (k.is_open ≡ true) × (k.farm.farm ≡ empty_farm) × KeepsOwnFarm over_memory k
OpensMemory (Err fault) = (fault ≡ DeskFault.NoMemory) ⊎ (fault ≡ store_failed)

-- a keeper of the empty farm in files that were free, or the store failed
pub record MakesNewFarm {D : Type 0} {g : disk.Ghosts D} (image : Image)
    (made : Result (KeeperState (FileStore D g)) DeskFault) : Type 0 where
  pub made_it : IfOk made (MakesFarm image)
  pub fault : IfErr made (λ fault. fault ≡ store_failed)

-- ---- making a farm, and bringing it to this edition

-- this line is printed once something could be done; where it couldn't, the fault ends the order,
-- and nothing is printed
abbrev pub PrintsIfDone : {A : Type 0} → (ℕ → Type 0) → Option (List ℕ) → Option (List ℕ)
    → Result A DeskFault → List ℕ → Result End DeskFault → Type 0
PrintsIfDone Room held holds (Ok done) line result = PrintsLine Room held holds line result
PrintsIfDone Room held holds (Err fault) line result = (result ≡ Err fault) × (holds ≡ held)

module _ (Room : ℕ → Type 0) (held holds : Option (List ℕ)) where
  -- the empty farm is made in the files, and its line printed
  pub record InitsIn {D : Type 0} (g : disk.Ghosts D) (image : Image) (result : Result End DeskFault)
      : Type 0 where
    pub made : Result (KeeperState (FileStore D g)) DeskFault
    pub makes : MakesNewFarm image made
    pub prints : PrintsIfDone Room held holds made ready_line result

  -- that is done in the files that are there, or in new ones
  abbrev pub Inits : {D : Type 0} → disk.Ghosts D → Image → {N : Type 0} → disk.Ghosts N → Image
      → Result End DeskFault → Type 0
  Inits g image fresh fresh_image result =
      InitsIn g image result ⊎ InitsIn fresh fresh_image result

  -- the first edition's farm of the files is brought to this one, and its line printed
  pub record MigratesFile {D : Type 0} (g : disk.Ghosts D) (image : Image)
      (result : Result End DeskFault) : Type 0 where
    pub raised : Result (Held (FileStore D g)) DeskFault
    pub raises : IfOk raised (RaisesFarm image)
    pub fault : IfErr raised IsUpgradeFault
    pub prints : PrintsIfDone Room held holds raised migrated_line result

-- ---- tasks, and all orders: what they make of an input and an output, over lab files whose bytes
-- may be known at their paths, a reader that never fails and a writer with such room

module _ (labs : List ℕ → Option (List ℕ)) (Sure : Type 0) (Room : ℕ → Type 0)
    (old new : Streams) where
  -- the task is done with a keeper that was opened; where none could be, the fault ends the order,
  -- and nothing is read or written
  abbrev pub DoesTaskIf : {S : Type 0} → Ghosts S → Result (KeeperState S) DeskFault → Task
      → Result End DeskFault → Type 0
  DoesTaskIf {S} g (Ok keeper) task result =
      (left : KeeperState S)
      × DoesTask g labs task (desk_at keeper old) (desk_at left new) Sure Room result
  DoesTaskIf {S} g (Err fault) task result = (result ≡ Err fault) × (new ≡ old)

  -- it is done with an empty farm in memory
  pub record DoesInMemory (task : Task) (result : Result End DeskFault) : Type 0 where
    pub opened : Result (KeeperState MemStore) DeskFault
    pub opens : OpensMemory opened
    pub does : DoesTaskIf over_memory opened task result

  module _ {D : Type 0} (g : disk.Ghosts D) (image : Image) where
    -- it is done with the farm that the files hold, which is opened first
    pub record DoesInFiles (task : Task) (result : Result End DeskFault) : Type 0 where
      pub opened : Result (KeeperState (FileStore D g)) DeskFault
      pub found : IfOk opened (FindsFarm image)
      pub fault : IfErr opened IsOpenFault
      pub does : DoesTaskIf over_files opened task result

    -- what the order does, by its kind, where it may make new files with this image
    module _ {N : Type 0} (fresh : disk.Ghosts N) (fresh_image : Image) where
      abbrev pub DoesOrder : Order → Result End DeskFault → Type 0
      DoesOrder (Order.Once Database.Memory at) result = DoesInMemory (Task.Answer at) result
      DoesOrder (Order.Once (Database.File file) at) result = DoesInFiles (Task.Answer at) result
      DoesOrder (Order.Init file) result = (new.input ≡ old.input)
          × Inits Room old.output new.output g image fresh fresh_image result
      DoesOrder (Order.Migrate file) result = (new.input ≡ old.input)
          × MigratesFile Room old.output new.output g image result
      DoesOrder (Order.Import file at lab) result = DoesInFiles (Task.Import at lab) result
      DoesOrder (Order.Serve file port max) result = DoesInFiles (Task.Serve port max) result
      DoesOrder (Order.Report file east west which) result =
          DoesInFiles (Task.Report east west which) result
