-- What callers see of a keeper and of a connection that a call didn't take, and what an open keeper
-- keeps true.
use Rattle.std.specs.Prelude.{◌≡◌, ⊤, Bool, true, false, refl}
use Rattle.std.specs.Coded.{Coded, code_by, coded×, coded_bool}
use Rattle.sqlite_trees.specs.declared.store.Store.{Ghosts}
use Rattle.sqlite.specs.Held.{Held, held_code, state}
use Rattle.farm_core.specs.Shown.{Shown}
use Rattle.farm_core.specs.contracts.farm.Farm as farm
use Rattle.sqlite.specs.State.{HasCleanDisk}
use Rattle.farm_types.specs.Names.{Farm, IsSound}
use Rattle.farm_types.specs.declared.calls.Answer.{Answer}
use Rattle.farm_store.specs.Columns.{rows_of}
use Rattle.farm_store.specs.Holds.{StandsFor, LeavesEither}
use Rattle.farm_keep.specs.declared.fault.KeepFault.{KeepFault}
use Rattle.farm_keep.specs.contracts.fault.KeepFault as fault

pub record KeeperState (S : Type 0) : Type 0 where
  pub conn : Held S
  pub farm : Shown
  pub is_open : Bool

abbrev pub keeper_code : {S : Type 0} → Coded S → Coded (KeeperState S)
keeper_code {S} store =
    code_by (Held S × (Shown × Bool))
    (coded× (held_code store) (coded× farm.the_row.coded coded_bool))
    (λ k. (k.conn, (k.farm, k.is_open))) (λ p. record { conn = p.0; farm = p.1.0; is_open = p.1.1 })
    (λ _. refl)

-- a connection that wasn't taken, and why
pub record UnkeptState (S : Type 0) : Type 0 where
  pub conn : Held S
  pub fault : KeepFault

abbrev pub unkept_code : {S : Type 0} → Coded S → Coded (UnkeptState S)
unkept_code {S} store =
    code_by (Held S × KeepFault) (coded× (held_code store) fault.the_row.coded)
    (λ u. (u.conn, u.fault)) (λ p. record { conn = p.0; fault = p.1 }) (λ _. refl)

-- no transaction is begun, and an open keeper's farm works and is sound
pub record KeeperInvariant {S : Type 0} (conn : Held S) (farm : Shown) (is_open : Bool) : Type 0 where
  pub autocommit : conn.in_transaction ≡ false
  pub working : is_open ≡ true → farm.failed ≡ false
  pub sound : is_open ≡ true → IsSound farm.farm

-- the keeper's store stands for this farm, where its disk has returned what was written
abbrev pub KeepsFarm : {S : Type 0} → Ghosts S → KeeperState S → Farm → Type 0
KeepsFarm g k F = StandsFor (state g k.conn) F

-- and for its own
abbrev pub KeepsOwnFarm : {S : Type 0} → Ghosts S → KeeperState S → Type 0
KeepsOwnFarm g k = KeepsFarm g k k.farm.farm

-- a stop now leaves no more than the rows of these two
abbrev pub KeepsEither : {S : Type 0} → Ghosts S → KeeperState S → Farm → Farm → Type 0
KeepsEither g k F G = HasCleanDisk (state g k.conn)
    → LeavesEither (state g k.conn) (rows_of F) (rows_of G)

-- a fact for an answer that is no change's
abbrev pub IfNoChange : Answer → Type 0 → Type 0
IfNoChange (Answer.Did reply changes) P = ⊤
IfNoChange (Answer.Kept reply) P = P
IfNoChange (Answer.Refused refusal) P = P
