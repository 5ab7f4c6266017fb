-- What is found again after a stop, of what connections asked and of what an import did.
use Rattle.std.specs.Prelude.{◌≡◌, ◌≤◌, ◌⊎◌, ◌+◌, ℕ, List, [], ◌∷◌, ◌++◌, length, map, take, Option, Some, Result, Ok, Err}
use Rattle.std.specs.Io.KnownBytes.{Appends}
use Rattle.farm_core.specs.Shown.{Shown}
use Rattle.farm_types.specs.Names.{Farm, run}
use Rattle.farm_types.specs.declared.calls.Call.{Call}
use Rattle.farm_jobfile.specs.Lab.{entry_of, lab}
use Rattle.farm_keep.specs.Lives.{GivesFarm}
use Rattle.farm_keep.specs.declared.fault.KeepFault.{KeepFault}
use Rattle.farm_wire.specs.Reading.{Denial}
use Rattle.farm_wire.specs.declared.ask.Ask.{Ask}
use Rattle.farm_wire.specs.declared.answers.Out.{Out}
use Rattle.farm_serve.specs.Answers.{Encodes}
use Rattle.farm_serve.specs.Received.{Receives}
use Rattle.farm_serve.specs.Conversations.{DoesAsked, IsMachineAnswer, call_asked}
use Rattle.farm_serve.specs.Connections.{Connection}
use Rattle.farm_serve.specs.Imports.{done_by}
use Rattle.farm_serve.specs.declared.fault.DeskFault.{DeskFault}
use Rattle.farm_serve.specs.declared.lab_import.ImportEnd.{ImportEnd}

-- ---- connections

-- a connection's answer was written whole: it is the machine's, of this farm, to what the bytes
-- ask, and what they ask was done
pub record IsAnsweredIn (F : Farm) (connection : Connection) (status : ℕ) (done : List Call)
    : Type 0 where
  pub asked : Result Ask Denial
  pub receives : Receives connection.arrival.input connection.departure.input
      connection.arrival.now asked
  pub all : done ≡ call_asked asked
  pub out : Out
  pub machine : IsMachineAnswer F asked out
  pub bytes : List ℕ
  pub encodes : Encodes out bytes status
  pub written : Appends connection.arrival.output connection.departure.output bytes

-- a connection that was answered did what its bytes ask; another did that, or nothing
abbrev pub Does : Farm → Connection → Result ℕ DeskFault → List Call → Type 0
Does F connection (Ok status) done = IsAnsweredIn F connection status done
Does F connection (Err fault) done = DoesAsked connection.arrival.input connection.departure.input
    connection.arrival.now (Err fault) done

-- connections one after another did these calls, each to the farm as those before it left it
abbrev pub Do : Farm → List Connection → List Call → Type 0
Do F [] done = done ≡ []
Do F (connection ∷ connections) done =
    (first : List Call) × (others : List Call) × Does F connection connection.end first
    × Do (run F first) connections others × (done ≡ first ++ others)

-- the farm is found after the calls that the connections asked and did, one after another, with
-- every call among them that was answered
pub record GivesServed (result : Result Shown KeepFault) (F : Farm) (connections : List Connection)
    : Type 0 where
  pub done : List Call
  pub does : Do F connections done
  pub gives : GivesFarm result (run F done)

-- ---- an import

-- a stop after an import leaves so many of its calls done: those that were done or, after a fault
-- of the store, perhaps one more
abbrev pub LeavesImported : ImportEnd → ℕ → Type 0
LeavesImported end n = (n ≡ done_by end)
    ⊎ ((end.fault ≡ Some (DeskFault.Keep KeepFault.Store)) × (n ≡ done_by end + 1))

-- this is true of the farm after so many of the calls that the text parses to
pub record GivesCalls (Is : Farm → Type 0) (F : Farm) (text : List ℕ) (now : ℕ) (end : ImportEnd)
    : Type 0 where
  pub calls : List Call
  pub parsed : lab text now ≡ Ok (map entry_of calls)
  pub done : ℕ
  pub counts : LeavesImported end done
  pub gives : Is (run F (take done calls))

-- and after none where the text parses to none, or where there was no memory to read it
abbrev pub GivesImported : (Farm → Type 0) → Farm → List ℕ → ℕ → ImportEnd → Option DeskFault
    → Type 0
GivesImported Is F text now end (Some (DeskFault.File fault)) = Is F
GivesImported Is F text now end fault = GivesCalls Is F text now end
