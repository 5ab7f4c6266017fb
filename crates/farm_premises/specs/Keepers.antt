-- States that meet the premises of laws over keepers, their stops and their lives.
use Rattle.std.specs.Prelude.{◌≡◌, true, List, [], ◌∷◌}
use Rattle.sqlite.specs.Held.{Held, state}
use Rattle.sqlite.specs.State.{HasCleanDisk}
use Rattle.sqlite.specs.Tree.{Trees}
use Rattle.sqlite_trees.specs.declared.store.Store.{Ghosts}
use Rattle.farm_types.specs.Names.{empty_farm, Farm, IsSound}
use Rattle.farm_types.specs.declared.calls.Call.{Call}
use Rattle.farm_store.specs.Columns.{rows_of}
use Rattle.farm_store.specs.Holds.{Holds}
use Rattle.farm_keep.specs.First.{HoldsEitherEdition, IsSoundFirst}
use Rattle.farm_keep.specs.Headline.{Adopts, Runs}
use Rattle.farm_keep.specs.KeeperState.{KeeperState, KeepsOwnFarm}
use Rattle.farm_keep.specs.Lives.{AreLived, Life, OpensOn}
use Rattle.farm_keep.specs.declared.keeper.run.RunEnd.{RunEnd}

-- the premises of `opened_stands`: the connection was just opened on the tables of this farm
pub record IsOnFarm {S : Type 0} (g : Ghosts S) (conn : Held S) (F : Farm) : Type 0 where
  pub left : Trees
  pub holds : Holds left (rows_of F)
  pub opens : OpensOn (state g conn) left

-- those of `found_after_stop`: it was opened on what a stop left of a keeper that ran calls
pub record IsStopped {S : Type 0} (g : Ghosts S) (conn : Held S) : Type 0 where
  pub old : KeeperState S
  pub new : KeeperState S
  pub end : RunEnd
  pub calls : List Call
  pub keeps : KeepsOwnFarm g old
  pub was_open : old.is_open ≡ true
  pub runs : Runs g old new end calls
  pub clean : HasCleanDisk (state g new.conn)
  pub left : Trees
  pub may : (state g new.conn).may_leave left
  pub opens : OpensOn (state g conn) left

-- those of `found_after_upgrade`: it was opened on a farm that the first edition knew
pub record IsUpgradable {S : Type 0} (g : Ghosts S) (conn : Held S) : Type 0 where
  pub farm : Farm
  pub sound : IsSoundFirst farm
  pub left : Trees
  pub holds : HoldsEitherEdition left farm
  pub opens : OpensOn (state g conn) left

-- those of `restarts_find_a_prefix`: it was opened on what a life left
pub record IsLeftByLife {S : Type 0} (g : Ghosts S) (conn : Held S) : Type 0 where
  pub farm : Farm
  pub life : Life S
  pub first : Trees
  pub last : Trees
  pub sound : IsSound farm
  pub holds : Holds first (rows_of farm)
  pub lived : AreLived g (life ∷ []) first last
  pub opens : OpensOn (state g conn) last

-- a keeper was adopted from a connection that was just opened on the empty farm, and keeps its own
pub record IsAdopted {S : Type 0} (g : Ghosts S) (k : KeeperState S) : Type 0 where
  pub conn : Held S
  pub on : IsOnFarm g conn empty_farm
  pub adopts : Adopts g conn k
  pub keeps : KeepsOwnFarm g k
