-- Lives of a desk: each opens its store on what the last stop left, and is stopped while it looks for
-- the farm, or once it adopted the farm and served connections.
use Rattle.std.specs.Prelude.{◌≡◌, ◌≤◌, List, [], ◌∷◌}
use Rattle.std.specs.List.{flat_map}
use Rattle.sqlite.specs.Held.{Held, state}
use Rattle.sqlite.specs.State.{HasCleanDisk}
use Rattle.sqlite.specs.Tree.{Trees}
use Rattle.sqlite_trees.specs.View.{doubt}
use Rattle.sqlite_trees.specs.declared.store.Store.{Ghosts}
use Rattle.farm_keep.specs.Headline.{Adopts}
use Rattle.farm_keep.specs.KeeperState.{KeeperState}
use Rattle.farm_keep.specs.Lives.{IsStoppedEarly, OpensOn}
use Rattle.farm_serve.specs.Connections.{AreServedInTurn, Connection}

-- it was stopped while it looked for the farm, with the connection as it was opened and as it was
-- then; or after it served connections, with the connection as it was opened, the keeper as it was
-- made and as it was left, and those connections
pub data DeskLife (S : Type 0) : Type 0 where
  Looked : (opened conn : Held S) → DeskLife S
  Served : (opened : Held S) (adopted keeper : KeeperState S) (connections : List Connection) → DeskLife S

-- it was opened on the first trees and adopted, its connections were served, and its stop left the
-- other trees
pub record IsServedLife {S : Type 0} (g : Ghosts S) (Sure : Type 0) (opened : Held S)
    (adopted keeper : KeeperState S) (connections : List Connection) (first last : Trees)
    : Type 0 where
  pub opens : OpensOn (state g opened) first
  pub adopts : Adopts g opened adopted
  pub serves : AreServedInTurn g Sure connections adopted keeper
  pub doubted : doubt (state g adopted.conn).is_clean ≤ doubt (state g keeper.conn).is_clean
  pub clean : HasCleanDisk (state g keeper.conn)
  pub left : (state g keeper.conn).may_leave last

abbrev pub IsDeskLife : {S : Type 0} → Ghosts S → Type 0 → DeskLife S → Trees → Trees → Type 0
IsDeskLife g Sure (DeskLife.Looked opened conn) first last = IsStoppedEarly g opened conn first last
IsDeskLife g Sure (DeskLife.Served opened adopted keeper connections) first last =
    IsServedLife g Sure opened adopted keeper connections first last

-- lives one after another
abbrev pub AreDeskLives : {S : Type 0} → Ghosts S → Type 0 → List (DeskLife S) → Trees → Trees
    → Type 0
AreDeskLives g Sure [] first last = first ≡ last
AreDeskLives g Sure (life ∷ lives) first last = (db : Trees) × IsDeskLife g Sure life first db
    × AreDeskLives g Sure lives db last

-- the connections of a life, and of all of them
abbrev pub connections_of : {S : Type 0} → DeskLife S → List Connection
connections_of (DeskLife.Looked opened conn) = []
connections_of (DeskLife.Served opened adopted keeper connections) = connections

abbrev pub all_connections : {S : Type 0} → List (DeskLife S) → List Connection
all_connections lives = flat_map connections_of lives
