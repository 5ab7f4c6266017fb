-- States that meet the premises of laws over serving and importing.
use Rattle.std.specs.Prelude.{◌≡◌, ◌≤◌, ℕ, List, [], ◌∷◌, length}
use Rattle.sqlite.specs.Held.{Held, state}
use Rattle.sqlite.specs.State.{HasCleanDisk}
use Rattle.sqlite.specs.Tree.{Trees}
use Rattle.sqlite_trees.specs.declared.store.Store.{Ghosts}
use Rattle.farm_types.specs.Names.{Farm, IsSound}
use Rattle.farm_store.specs.Columns.{rows_of}
use Rattle.farm_store.specs.Holds.{Holds}
use Rattle.farm_keep.specs.KeeperState.{KeeperState, KeepsOwnFarm}
use Rattle.farm_keep.specs.Lives.{OpensOn}
use Rattle.farm_serve.specs.Connections.{AreServedInTurn, Connection}
use Rattle.farm_serve.specs.DeskLives.{AreDeskLives, DeskLife}
use Rattle.farm_serve.specs.Imports.{IsImport}
use Rattle.farm_serve.specs.declared.lab_import.ImportEnd.{ImportEnd}

-- the premises of `found_after_serving`: the connection was opened on what a stop left of a keeper
-- that served one client
pub record IsServed {S : Type 0} (g : Ghosts S) (Sure : Type 0) (conn : Held S) : Type 0 where
  pub old : KeeperState S
  pub new : KeeperState S
  pub connections : List Connection
  pub one : length connections ≡ 1
  pub sound : IsSound old.farm.farm
  pub keeps : KeepsOwnFarm g old
  pub served : AreServedInTurn g Sure connections old new
  pub clean : HasCleanDisk (state g new.conn)
  pub left : Trees
  pub may : (state g new.conn).may_leave left
  pub opens : OpensOn (state g conn) left

-- those of `desk_lives_keep_what_was_answered`: it was opened on what a life of the desk left
pub record IsLeftByDesk {S : Type 0} (g : Ghosts S) (Sure : Type 0) (conn : Held S) : Type 0 where
  pub farm : Farm
  pub life : DeskLife S
  pub first : Trees
  pub last : Trees
  pub sound : IsSound farm
  pub holds : Holds first (rows_of farm)
  pub lived : AreDeskLives g Sure (life ∷ []) first last
  pub opens : OpensOn (state g conn) last

-- those of `found_after_import`: it was opened on what a stop left of a keeper that imported a text
-- with a command that was accepted
pub record IsImported {S : Type 0} (g : Ghosts S) (conn : Held S) : Type 0 where
  pub old : KeeperState S
  pub new : KeeperState S
  pub text : List ℕ
  pub now : ℕ
  pub end : ImportEnd
  pub accepted : 1 ≤ end.accepted
  pub sound : IsSound old.farm.farm
  pub keeps : KeepsOwnFarm g old
  pub imports : IsImport g old new text now end
  pub clean : HasCleanDisk (state g new.conn)
  pub left : Trees
  pub may : (state g new.conn).may_leave left
  pub opens : OpensOn (state g conn) left
