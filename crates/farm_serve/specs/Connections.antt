-- Connections, one after another: a client arrives, is conversed with, and departs.
use Rattle.std.specs.Prelude.{◌≡◌, ◌≤◌, ◌⊎◌, ℕ, true, List, [], ◌∷◌, ◌++◌, map, length, Option, Some, None, IsSome, Result}
use Rattle.sqlite_trees.specs.declared.store.Store.{Ghosts}
use Rattle.farm_keep.specs.KeeperState.{KeeperState}
use Rattle.farm_serve.specs.Clients.{Arrival, Departure, ClientList, HasRoom, IsOver}
use Rattle.farm_serve.specs.Conversations.{Converses, IsComplete, desk}
use Rattle.farm_serve.specs.declared.fault.DeskFault.{DeskFault}

-- a client as it arrived and as it departed, and how the conversation with it ended
pub record Connection : Type 0 where
  pub arrival : Arrival
  pub departure : Departure
  pub end : Result ℕ DeskFault

-- an open keeper converses with it, at the moment it arrived; where readers never fail it is known
-- what they have, and its request is received; and where its writer has room for what is due it is
-- answered
pub record IsConnection {S : Type 0} (g : Ghosts S) (Sure : Type 0) (old new : KeeperState S)
    (connection : Connection) : Type 0 where
  pub was_open : old.is_open ≡ true
  pub heard : Sure → IsSome connection.arrival.input
  pub converses : Converses g (desk old connection.arrival.input connection.arrival.output)
      (desk new connection.departure.input connection.departure.output) connection.arrival.now
      connection.end
  pub complete : IsComplete g (desk old connection.arrival.input connection.arrival.output)
      (desk new connection.departure.input connection.departure.output) connection.arrival.now Sure
      (HasRoom connection.arrival.capacity connection.arrival.output) connection.end

-- each with the keeper as the one before left it
abbrev pub AreServedInTurn : {S : Type 0} → Ghosts S → Type 0 → List Connection → KeeperState S
    → KeeperState S → Type 0
AreServedInTurn g Sure [] old new = new ≡ old
AreServedInTurn g Sure (connection ∷ connections) old new =
    (next : KeeperState _) × IsConnection g Sure old next connection
    × AreServedInTurn g Sure connections next new

-- of the clients that are known these arrived and departed; what isn't known stays unknown
abbrev pub AreOf : Option ClientList → Option ClientList → List Connection → Type 0
AreOf None new connections = new ≡ None
AreOf (Some old) None connections = ⊥
AreOf (Some old) (Some new) connections =
    (old.waiting ≡ map (λ connection. connection.arrival) connections ++ new.waiting)
    × (new.served ≡ old.served ++ map (λ connection. connection.departure) connections)

-- the next clients, at most so many, were conversed with in turn, and where nothing failed so many
-- were, or nobody is left
pub record ServesInTurn {S : Type 0} (g : Ghosts S) (Sure : Type 0) (before after : Option ClientList)
    (old new : KeeperState S) (max : ℕ) (Whole : Type 0) : Type 0 where
  pub connections : List Connection
  pub few : length connections ≤ max
  pub in_turn : AreServedInTurn g Sure connections old new
  pub clients : AreOf before after connections
  pub all : Whole → (length connections ≡ max) ⊎ IsOver after
