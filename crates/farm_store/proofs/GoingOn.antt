-- A transaction that goes on, call after call.
use Rattle.std.proofs.Common.{◌∙◌, arith}
use Rattle.farm_store.proofs.Names.{GoesOn, HasCleanDisk, state}
use Rattle.sqlite.specs.declared.transaction.Transaction.{Transaction}
use Rattle.sqlite.proofs.StateLemmas.{survives_then}
use Rattle.sqlite_trees.specs.declared.store.Store.{Ghosts}

module _ {S : Type 0} {g : Ghosts S} where
  -- the disk was clean before
  pub was_clean : {old new : Transaction S} → GoesOn g old new → HasCleanDisk (state g new.conn.now) → HasCleanDisk (state g old.conn.now)
  was_clean on clean = omega (arith, on.survives.clean)

  -- over two calls
  pub goes_on_then : {old mid new : Transaction S} → GoesOn g old mid → GoesOn g mid new → GoesOn g old new
  goes_on_then {old} {mid} {new} one two = record {
    same_reference = two.same_reference ∙ one.same_reference;
    survives = survives_then (state g old.conn.now) (state g mid.conn.now) (state g new.conn.now) _ _ (λ _. ⊥) (λ _ db none. none) (λ _ db none. none) one.survives two.survives;
  }
