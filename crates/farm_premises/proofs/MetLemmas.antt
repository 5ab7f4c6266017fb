-- What a run of no calls leaves, what an adopted keeper keeps, and how many were served.
use Rattle.std.proofs.Common.{◌≡◌, ◌⊎◌, inl, inr, ℕ, zero, suc, List, [], ◌++◌, length, map, take, Option, Some, None, refl, sym, ap, ◌∙◌, subst}
use Rattle.std.specs.Prelude.{IfSome}
use Rattle.std.proofs.lemmas.List.{append-nil, length-map}
use Rattle.sqlite.specs.Held.{Held, state}
use Rattle.sqlite.specs.State.{HasCleanDisk, IsLive, Opens}
use Rattle.sqlite.specs.Tree.{Trees}
use Rattle.sqlite_trees.specs.declared.store.Store.{Ghosts}
use Rattle.farm_types.specs.Names.{empty_farm, Farm, run}
use Rattle.farm_types.specs.declared.calls.Call.{Call}
use Rattle.farm_store.specs.Columns.{TableRows, rows_of}
use Rattle.farm_store.specs.Holds.{Holds, Stands}
use Rattle.farm_keep.specs.Headline.{Adopts, Runs}
use Rattle.farm_keep.specs.KeeperState.{KeeperState, KeepsOwnFarm}
use Rattle.farm_keep.specs.declared.keeper.run.RunEnd.{RunEnd}
use Rattle.farm_keep.proofs.LifeLemmas.{left_run}
use Rattle.farm_serve.specs.Clients.{Arrival}
use Rattle.farm_serve.specs.Connections.{Connection}
use Rattle.farm_premises.specs.Keepers.{IsOnFarm}

pub if_some : {A : Type 0} {P Q : A → Type 0} (o : Option A) → ((a : A) → P a → Q a) → IfSome o P → IfSome o Q
if_some None f it = it
if_some (Some a) f it = f a it

none_taken : (n : ℕ) → take {A = Call} n [] ≡ []
none_taken zero = refl
none_taken (suc n) = refl

pub left_empty : {S : Type 0} (g : Ghosts S) (old new : KeeperState S) (end : RunEnd) (db : Trees) → KeepsOwnFarm g old → old.farm.farm ≡ empty_farm → Runs g old new end []
    → HasCleanDisk (state g new.conn) → (state g new.conn).may_leave db → Holds db (rows_of empty_farm)
left_empty g old new end db keeps empty runs clean may =
    let it = left_run g new end old.farm.farm [] db (runs.left keeps) clean may in
    subst (λ F. Holds db (rows_of F)) (ap (run old.farm.farm) (none_taken it.done) ∙ empty) it.holds

-- a keeper that was adopted from a store that was opened on a farm keeps its own
pub keeps_adopted : {S : Type 0} (g : Ghosts S) (conn : Held S) (k : KeeperState S) (F : Farm)
    → (Opens (state g conn) → IsLive (state g conn) → (T : TableRows) → Holds (state g conn).committed.trees T → Stands (state g conn) T)
    → IsOnFarm g conn F → Adopts g conn k → KeepsOwnFarm g k
keeps_adopted g conn k F stands on made = λ clean.
    let at = stands on.opens.opens on.opens.live (rows_of F) (subst (λ (t : Trees). Holds t (rows_of F)) (sym on.opens.on) on.holds) in
    subst (Stands (state g k.conn)) (sym (made.rows clean (rows_of F) at)) (made.stands clean (rows_of F) at)

-- of one that waited one was served, where so many were or nobody is left
pub one_served : (connections : List Connection) (before after : List Arrival) → length before ≡ 1
    → before ≡ map (λ connection. connection.arrival) connections ++ after → (length connections ≡ 1) ⊎ (after ≡ []) → length connections ≡ 1
one_served connections before after one is all = elim all [
  | inl same ↦ same
  | inr none ↦
      let arrivals = map (λ (connection : Connection). connection.arrival) connections in
      let whole : before ≡ arrivals ++ [] = is ∙ ap (λ rest. arrivals ++ rest) none in
      sym (length-map connections (λ (connection : Connection). connection.arrival)) ∙ sym (ap length (append-nil arrivals)) ∙ sym (ap length whole) ∙ one
]
