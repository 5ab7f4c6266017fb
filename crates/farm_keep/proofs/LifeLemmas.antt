-- What a run leaves is found again, life by life.
use Rattle.std.proofs.Common.{◌≡◌, inl, inr, ℕ, ◌+◌, List, [], ◌∷◌, Ok, Err, Result, take, refl, sym, subst, arith}
use mathlib.Core.Bool.{true≢false}
use Rattle.std.specs.Prelude.{IfOk, IfErr}
use Rattle.std.specs.List.{AllZip}
use Rattle.std.proofs.lemmas.List.Sums.{fold-append}
use Rattle.sqlite.specs.Held.{Held, state}
use Rattle.sqlite.specs.State.{State, HasCleanDisk, IsLive, Opens}
use Rattle.sqlite.specs.Tree.{Trees}
use Rattle.sqlite_trees.specs.declared.store.Store.{Ghosts}
use Rattle.farm_types.specs.Names.{Farm, IsSound, run, step}
use Rattle.farm_types.specs.declared.calls.Call.{Call}
use Rattle.farm_sound.proofs.Step.{IsSound-run}
use Rattle.farm_core.specs.Shown.{Shown}
use Rattle.farm_store.specs.Columns.{IsOfSchema, TableRows, first_schema, rows_of}
use Rattle.farm_store.specs.Holds.{Holds, Stands}
use Rattle.farm_keep.specs.Faults.{IsFindFault}
use Rattle.farm_keep.specs.Found.{Finds}
use Rattle.farm_keep.specs.Headline.{GivesNoKeeper, LeavesRun}
use Rattle.farm_keep.specs.KeeperState.{KeeperState, KeepsOwnFarm}
use Rattle.farm_keep.specs.Lives.{AreLived, GivesFarm, IsLived, IsRestart, LeavesDone, Life, OpensOn}
use Rattle.farm_keep.specs.Restarts.{Restart, calls_of_restarts, done_calls}
use Rattle.farm_keep.specs.declared.keeper.run.RunEnd.{RunEnd}
use Rattle.farm_keep.specs.declared.fault.KeepFault.{KeepFault}

-- why a store gave no farm
pub denies : (s : State) (fault : KeepFault) (result : Result Shown KeepFault) → result ≡ Err fault → Finds result s → GivesNoKeeper s fault
denies s KeepFault.NoMemory result is finds = tt
denies s KeepFault.Store result is finds = tt
denies s KeepFault.BadStore result is finds = finds.bad is
denies s KeepFault.OldSchema result is finds = finds.old is
denies s KeepFault.NewSchema result is finds = tt
denies s KeepFault.Closed result is finds = tt

-- the tables of a farm are of the second edition
pub not_first : (F : Farm) → IsOfSchema first_schema (rows_of F) → ⊥
unfolding rows_of
not_first F first = true≢false (sym first)

-- a store that stands for a sound farm gives it
pub gives_farm : (result : Result Shown KeepFault) (old : State) (F : Farm) → IsSound F → Stands old (rows_of F)
    → IfOk result (λ f. (G : Farm) → IsSound G → Stands old (rows_of G) → f.farm ≡ G)
    → (result ≡ Err KeepFault.BadStore → (G : Farm) → IsSound G → ¬ Stands old (rows_of G))
    → (result ≡ Err KeepFault.OldSchema → (T : TableRows) → Stands old T → IsOfSchema first_schema T) → IfErr result IsFindFault → GivesFarm result F
gives_farm (Ok f) old F sound at exact bad ours may = record { exact = exact F sound at; fault = tt }
gives_farm (Err KeepFault.NoMemory) old F sound at exact bad ours may = record { exact = tt; fault = tt }
gives_farm (Err KeepFault.Store) old F sound at exact bad ours may = record { exact = tt; fault = tt }
gives_farm (Err KeepFault.BadStore) old F sound at exact bad ours may = absurd (bad refl F sound at)
gives_farm (Err KeepFault.OldSchema) old F sound at exact bad ours may = absurd (not_first F (ours refl (rows_of F) at))
gives_farm (Err KeepFault.NewSchema) old F sound at exact bad ours may = absurd may
gives_farm (Err KeepFault.Closed) old F sound at exact bad ours may = absurd may

pub record LeftRun (db : Trees) (F : Farm) (end : RunEnd) (calls : List Call) : Type 0 where
  pub done : ℕ
  pub counts : LeavesDone end done
  pub holds : Holds db (rows_of (run F (take done calls)))

pub left_run : {S : Type 0} (g : Ghosts S) (k : KeeperState S) (end : RunEnd) (F : Farm) (calls : List Call) (db : Trees)
    → LeavesRun g k end F calls → HasCleanDisk (state g k.conn) → (state g k.conn).may_leave db → LeftRun db F end calls
left_run g k end F calls db leaves clean may = elim (leaves clean db may) [
  | inl here ↦ record { done = end.done; counts = inl refl; holds = here }
  | inr more ↦ record { done = end.done + 1; counts = inr (more.0, refl); holds = more.1 }
]

-- a connection that was just opened stands for what it was opened on
abbrev pub StandsOpened : {S : Type 0} → Ghosts S → Type 0
StandsOpened g = (h : Held _) → Opens (state g h) → IsLive (state g h) → (T : TableRows) → Holds (state g h).committed.trees T → Stands (state g h) T

at_opening : {S : Type 0} (g : Ghosts S) → StandsOpened g → (opened : Held S) (first : Trees) (F : Farm)
    → Holds first (rows_of F) → OpensOn (state g opened) first → Stands (state g opened) (rows_of F)
at_opening g stands opened first F holds opens =
    stands opened opens.opens opens.live (rows_of F) (subst (λ (t : Trees). Holds t (rows_of F)) (sym opens.on) holds)

pub record LeftLife {S : Type 0} (db : Trees) (F : Farm) (life : Life S) : Type 0 where
  pub restart : Restart
  pub each : IsRestart life restart
  pub holds : Holds db (rows_of (run F (done_calls restart)))

one_life : {S : Type 0} (g : Ghosts S) → StandsOpened g → (life : Life S) (first last : Trees) (F : Farm)
    → IsSound F → Holds first (rows_of F) → IsLived g life first last → LeftLife last F life
one_life g stands (Life.Looked opened conn) first last F sound holds it = record {
  restart = record { calls = []; done = 0 };
  each = (refl, refl);
  holds = (at_opening g stands opened first F holds it.opens).left last (it.reads.left it.clean last it.left);
}
one_life g stands (Life.Ran opened keeper end calls) first last F sound holds it =
    let at = at_opening g stands opened first F holds it.opens in
    let k = it.resumes.adopted in
    let made = it.resumes.adopts in
    let early : HasCleanDisk (state g k.conn) = omega (arith, it.resumes.runs.clean, it.clean) in
    let keeps : KeepsOwnFarm g k = λ clean. subst (Stands (state g k.conn)) (sym (made.rows clean (rows_of F) at)) (made.stands clean (rows_of F) at) in
    let leaves : LeavesRun g keeper end F calls = subst (λ G. LeavesRun g keeper end G calls) (made.exact early F sound at) (it.resumes.runs.left keeps) in
    let one = left_run g keeper end F calls last leaves it.clean it.left in
    record { restart = record { calls = calls; done = one.done }; each = (refl, one.counts); holds = one.holds }

pub record LeftLives {S : Type 0} (db : Trees) (F : Farm) (lives : List (Life S)) : Type 0 where
  pub restarts : List Restart
  pub each : AllZip IsRestart lives restarts
  pub sound : IsSound (run F (calls_of_restarts restarts))
  pub holds : Holds db (rows_of (run F (calls_of_restarts restarts)))

pub all_lives : {S : Type 0} (g : Ghosts S) → StandsOpened g → (lives : List (Life S)) (first last : Trees) (F : Farm)
    → IsSound F → Holds first (rows_of F) → AreLived g lives first last → LeftLives last F lives
all_lives g stands [] first last F sound holds lived =
    record { restarts = []; each = tt; sound = sound; holds = subst (λ (t : Trees). Holds t (rows_of F)) lived holds }
all_lives g stands (life ∷ lives) first last F sound holds lived =
    let one = one_life g stands life first lived.0 F sound holds lived.1 in
    let done = done_calls one.restart in
    let rest = all_lives g stands lives lived.0 last (run F done) (IsSound-run done F sound) one.holds lived.2 in
    let same : run (run F done) (calls_of_restarts rest.restarts) ≡ run F (calls_of_restarts (one.restart ∷ rest.restarts)) = sym (fold-append step F done (calls_of_restarts rest.restarts)) in
    record {
      restarts = one.restart ∷ rest.restarts;
      each = (one.each, rest.each);
      sound = subst IsSound same rest.sound;
      holds = subst (λ H. Holds last (rows_of H)) same rest.holds;
    }
