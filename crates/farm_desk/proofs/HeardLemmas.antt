-- Whoever was served in turn was heard.
use Rattle.std.proofs.Common.{ℕ}
use Rattle.std.specs.Prelude.{⊤, Option}
use Rattle.sqlite_trees.specs.declared.store.Store.{Ghosts}
use Rattle.farm_keep.specs.KeeperState.{KeeperState}
use Rattle.farm_serve.specs.Clients.{ClientList}
use Rattle.farm_serve.specs.Connections.{ServesInTurn}
use Rattle.farm_desk.specs.Orders.{HearsClients}

pub hears : {S : Type 0} (g : Ghosts S) (before after : Option ClientList) (old new : KeeperState S) (max : ℕ) (Whole : Type 0) → ServesInTurn g ⊤ before after old new max Whole
    → HearsClients g old new max
hears g before after old new max Whole it = record { connections = it.connections; few = it.few; in_turn = it.in_turn }
