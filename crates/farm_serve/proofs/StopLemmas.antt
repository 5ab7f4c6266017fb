-- What a stop leaves after connections, or after an import, is found again.
use Rattle.std.proofs.Common.{◌≡◌, ◌⊎◌, ◌+◌, ℕ, Bool, true, false, List, [], ◌∷◌, ◌++◌, ◌≤◌, length, take, Option, Some, None, refl, sym, ap, ◌∙◌, subst, inl}
use Rattle.std.proofs.Common.{inr, arith}
use Rattle.std.specs.Prelude.{Result, Ok, Err}
use Rattle.std.proofs.Math.Seq.{take-length}
use Rattle.farm_serve.proofs.Names.{Call, DeskFault, fold-append, Ghosts, Holds, KeeperState, KeepFault, KeepsFarm, KeepsOwnFarm, length-append, rows_of, state}
use Rattle.farm_serve.proofs.Names.{Trees}
use Rattle.sqlite.specs.State.{HasCleanDisk}
use Rattle.farm_types.specs.Names.{Farm, run, step}
use Rattle.farm_types.specs.declared.refusal.Refusal.{Refusal}
use Rattle.farm_serve.specs.Names.{AreServedInTurn, AsksCalls, call_asked, Connection, Converses, desk, Do, DoesAsked, done_by, EndsBy, GivesCalls}
use Rattle.farm_serve.specs.Names.{GivesImported, Imports, ImportsBy, IsClosing, IsConnection, LeavesBy, Reaches, ServesUntil}
use Rattle.farm_serve.specs.Stops.{Does}
use Rattle.farm_serve.specs.declared.lab_import.ImportEnd.{ImportEnd}
use Rattle.farm_serve.proofs.PrefixLemmas.{both_ways, cut, lost_part, whole_part}

-- ---- a connection that leaves the keeper open

-- what a connection did, and that the keeper came to it
pub record IsDone {S : Type 0} (g : Ghosts S) (old new : KeeperState S) (connection : Connection) (end : Result ℕ DeskFault) : Type 0 where
  pub done : List Call
  pub does : Does old.farm.farm connection end done
  pub reaches : Reaches g old new done

is_done : {S : Type 0} (g : Ghosts S) (old new : KeeperState S) (connection : Connection) (end : Result ℕ DeskFault) → new.is_open ≡ true
    → Converses g (desk old connection.arrival.input connection.arrival.output) (desk new connection.departure.input connection.departure.output) connection.arrival.now end
    → IsDone g old new connection end
is_done g old new connection (Ok status) opened h =
    let whole = whole_part g (desk old connection.arrival.input connection.arrival.output) (desk new connection.departure.input connection.departure.output) connection.arrival.now status h in
    record {
      done = call_asked whole.asked;
      does = record {
        asked = whole.asked;
        receives = whole.receives;
        all = refl;
        out = whole.out;
        machine = whole.machine;
        bytes = whole.bytes;
        encodes = whole.encodes;
        written = whole.written;
      };
      reaches = whole.reaches;
    }
is_done g old new connection (Err fault) opened h =
    let lost = lost_part g (desk old connection.arrival.input connection.arrival.output) (desk new connection.departure.input connection.departure.output) connection.arrival.now fault opened h in
    record { done = lost.done; does = lost.does; reaches = lost.reaches }

-- ---- a connection that closes it

left_by : {S : Type 0} (g : Ghosts S) (k : KeeperState S) (end : Result ℕ DeskFault) (F G : Farm) (db : Trees) → LeavesBy g k end F G
    → HasCleanDisk (state g k.conn) → (state g k.conn).may_leave db → Holds db (rows_of F) ⊎ Holds db (rows_of G)
left_by g k (Err (DeskFault.Keep KeepFault.NoMemory)) F G db leaves clean may = inl ((leaves clean).left db may)
left_by g k (Err (DeskFault.Keep KeepFault.Store)) F G db leaves clean may = leaves clean db may
left_by g k (Err DeskFault.Write) F G db leaves clean may = leaves clean db may
left_by g k end F G db leaves clean may = absurd leaves

closing_does : (F : Farm) (connection : Connection) (end : Result ℕ DeskFault) (done : List Call) → IsClosing end
    → DoesAsked connection.arrival.input connection.departure.input connection.arrival.now (Err DeskFault.Write) done → Does F connection end done
closing_does F connection (Ok status) done closing did = absurd closing
closing_does F connection (Err fault) done closing did = did

-- ---- all of them

-- these trees hold the farm after what the connections did
pub record LeftServed (db : Trees) (F : Farm) (connections : List Connection) : Type 0 where
  pub done : List Call
  pub does : Do F connections done
  pub holds : Holds db (rows_of (run F done))

closed_left : {S : Type 0} (g : Ghosts S) (Sure : Type 0) (connection : Connection) (old new : KeeperState S) (db : Trees)
    → IsConnection g Sure old new connection → new.is_open ≡ false → KeepsOwnFarm g old
    → HasCleanDisk (state g new.conn) → (state g new.conn).may_leave db → LeftServed db old.farm.farm (connection ∷ [])
closed_left g Sure connection old new db it closed keeps clean may =
    let c = cut g (desk old connection.arrival.input connection.arrival.output) (desk new connection.departure.input connection.departure.output) connection.arrival.now connection.end it.was_open closed it.converses in
    by c.call c.asks c.closing (left_by g new connection.end old.farm.farm (step old.farm.farm c.call) db (c.leaves keeps) clean may)
  where
    by : (call : Call) → AsksCalls connection.arrival.input connection.departure.input connection.arrival.now (call ∷ []) → IsClosing connection.end
        → Holds db (rows_of old.farm.farm) ⊎ Holds db (rows_of (step old.farm.farm call)) → LeftServed db old.farm.farm (connection ∷ [])
    by call asks closing (inl before) = record {
      done = [];
      does = ([], [], closing_does old.farm.farm connection connection.end [] closing (inl refl), refl, refl);
      holds = before;
    }
    by call asks closing (inr after) = record {
      done = call ∷ [];
      does = (call ∷ [], [], closing_does old.farm.farm connection connection.end (call ∷ []) closing (inr asks), refl, refl);
      holds = after;
    }

next_left : {S : Type 0} (g : Ghosts S) (connection : Connection) (connections : List Connection) (old next : KeeperState S) (db : Trees)
    → IsDone g old next connection connection.end → LeftServed db next.farm.farm connections → LeftServed db old.farm.farm (connection ∷ connections)
next_left g connection connections old next db first rest =
    let farm = first.reaches.farm in
    let same : run next.farm.farm rest.done ≡ run old.farm.farm (first.done ++ rest.done) = ap (λ F. run F rest.done) farm ∙ sym (fold-append step old.farm.farm first.done rest.done) in
    record {
      done = first.done ++ rest.done;
      does = (first.done, rest.done, first.does, subst (λ F. Do F connections rest.done) farm rest.does, refl);
      holds = subst (λ F. Holds db (rows_of F)) same rest.holds;
    }

-- by how open the keeper is after the first of them
split : {S : Type 0} (g : Ghosts S) (Sure : Type 0) (connection : Connection) (connections : List Connection) (old next new : KeeperState S) (db : Trees) (b : Bool)
    → next.is_open ≡ b → IsConnection g Sure old next connection → AreServedInTurn g Sure connections next new → KeepsOwnFarm g old
    → HasCleanDisk (state g new.conn) → (state g new.conn).may_leave db → (KeepsOwnFarm g next → LeftServed db next.farm.farm connections)
    → LeftServed db old.farm.farm (connection ∷ connections)
split g Sure connection connections old next new db true is it others keeps clean may rest =
    let first = is_done g old next connection connection.end is it.converses in
    next_left g connection connections old next db first (rest (first.reaches.keeps keeps))
split g Sure connection [] old next new db false is it others keeps clean may rest =
    closed_left g Sure connection old next db it is keeps
    (subst (λ (k : KeeperState _). HasCleanDisk (state g k.conn)) others clean) (subst (λ (k : KeeperState _). (state g k.conn).may_leave db) others may)
split g Sure connection (more ∷ connections) old next new db false is it others keeps clean may rest =
    both_ways next.is_open others.1.was_open is

pub served_left : {S : Type 0} (g : Ghosts S) (Sure : Type 0) (connections : List Connection) (old new : KeeperState S) (db : Trees)
    → AreServedInTurn g Sure connections old new → KeepsOwnFarm g old
    → HasCleanDisk (state g new.conn) → (state g new.conn).may_leave db → LeftServed db old.farm.farm connections
served_left g Sure [] old new db same keeps clean may = record {
  done = [];
  does = refl;
  holds = (keeps (subst (λ (k : KeeperState _). HasCleanDisk (state g k.conn)) same clean)).left db (subst (λ (k : KeeperState _). (state g k.conn).may_leave db) same may);
}
served_left g Sure (connection ∷ connections) old new db h keeps clean may =
    split g Sure connection connections old h.0 new db h.0.is_open refl h.1 h.2 keeps clean may
    (λ kept. served_left g Sure connections h.0 new db h.2 kept clean may)

-- ---- an import

-- by how it ended: these trees hold the farm after so many of its calls
pub record LeftCalls (db : Trees) (F : Farm) (calls : List Call) (done : ℕ) (fault : Option DeskFault) : Type 0 where
  pub n : ℕ
  pub counts : (n ≡ done) ⊎ ((fault ≡ Some (DeskFault.Keep KeepFault.Store)) × (n ≡ done + 1))
  pub holds : Holds db (rows_of (run F (take n calls)))

kept_left : {S : Type 0} (g : Ghosts S) (k : KeeperState S) (G F : Farm) (calls : List Call) (done : ℕ) (fault : Option DeskFault) (db : Trees) → G ≡ run F (take done calls) → KeepsFarm g k G
    → HasCleanDisk (state g k.conn) → (state g k.conn).may_leave db → LeftCalls db F calls done fault
kept_left g k G F calls done fault db same keeps clean may =
    record { n = done; counts = inl refl; holds = subst (λ H. Holds db (rows_of H)) same ((keeps clean).left db may) }

ended_left : {S : Type 0} (g : Ghosts S) (old new : KeeperState S) (calls : List Call) (done : ℕ) (stopped : Option (ℕ × Refusal)) (fault : Option DeskFault) (db : Trees)
    → EndsBy g old new calls done stopped fault → KeepsOwnFarm g old → HasCleanDisk (state g new.conn) → (state g new.conn).may_leave db → LeftCalls db old.farm.farm calls done fault
ended_left g old new calls done None None db it keeps clean may =
    let all : take done calls ≡ calls = ap (λ n. take n calls) it.all ∙ take-length calls in
    kept_left g new new.farm.farm old.farm.farm calls done None db (it.reaches.farm ∙ ap (run old.farm.farm) (sym all)) (it.reaches.keeps keeps) clean may
ended_left g old new calls done (Some stop) None db it keeps clean may =
    kept_left g new new.farm.farm old.farm.farm calls done None db it.reaches.farm (it.reaches.keeps keeps) clean may
ended_left g old new calls done None (Some (DeskFault.Keep KeepFault.NoMemory)) db it keeps clean may =
    kept_left g new (run old.farm.farm (take done calls)) old.farm.farm calls done (Some (DeskFault.Keep KeepFault.NoMemory)) db refl (it.leaves keeps) clean may
ended_left g old new calls done None (Some (DeskFault.Keep KeepFault.Store)) db it keeps clean may = elim (it.leaves keeps clean db may) [
  | inl before ↦ record { n = done; counts = inl refl; holds = before }
  | inr after ↦ record { n = done + 1; counts = inr (refl, refl); holds = after }
]
ended_left g old new calls done None (Some (DeskFault.Keep KeepFault.Closed)) db it keeps clean may =
    let none : old.farm.farm ≡ run old.farm.farm (take done calls) = ap (λ n. run old.farm.farm (take n calls)) (sym it.nothing) in
    kept_left g new old.farm.farm old.farm.farm calls done (Some (DeskFault.Keep KeepFault.Closed)) db none (subst (λ (k : KeeperState _). KeepsFarm g k old.farm.farm) (sym it.unchanged) keeps) clean may
ended_left g old new calls done stopped fault db it keeps clean may = absurd it

calls_given : {S : Type 0} (g : Ghosts S) (old new : KeeperState S) (text : List ℕ) (now : ℕ) (end : ImportEnd) (Is : Farm → Type 0) (db : Trees) → Imports g old new text now end → KeepsOwnFarm g old
    → HasCleanDisk (state g new.conn) → (state g new.conn).may_leave db → ((calls : List Call) → Holds db (rows_of (run old.farm.farm calls)) → Is (run old.farm.farm calls))
    → GivesCalls Is old.farm.farm text now end
calls_given g old new text now end Is db it keeps clean may give =
    let left = ended_left g old new it.calls (done_by end) end.stopped end.fault db it.does.ends keeps clean may in
    record { calls = it.calls; parsed = it.parsed; done = left.n; counts = left.counts; gives = give (take left.n it.calls) left.holds }

pub import_given : {S : Type 0} (g : Ghosts S) (old new : KeeperState S) (text : List ℕ) (now : ℕ) (end : ImportEnd) (fault : Option DeskFault) (Is : Farm → Type 0) (db : Trees) → ImportsBy g old new text now end fault → KeepsOwnFarm g old
    → HasCleanDisk (state g new.conn) → (state g new.conn).may_leave db → ((calls : List Call) → Holds db (rows_of (run old.farm.farm calls)) → Is (run old.farm.farm calls))
    → GivesImported Is old.farm.farm text now end fault
import_given g old new text now end (Some (DeskFault.File fault)) Is db it keeps clean may give =
    give [] (((subst (λ (k : KeeperState _). KeepsFarm g k old.farm.farm) (sym it.unchanged) keeps) clean).left db may)
import_given g old new text now end None Is db it keeps clean may give = calls_given g old new text now end Is db it keeps clean may give
import_given g old new text now end (Some fault) Is db it keeps clean may give = calls_given g old new text now end Is db it keeps clean may give
