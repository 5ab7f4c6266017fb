-- What taking the next row of a query leaves.
use Rattle.std.proofs.Common.{inl, inr, ◌≡◌, ◌⊎◌, false, Result, Ok, Err, IfErr, OnOk}
use Rattle.sqlite.specs.State.{State, HasCleanDisk, Fails, IsUnchanged, Survives}
use Rattle.farm_store.proofs.Names.{Error, ReadsOnly}
use Rattle.farm_store.proofs.LeftAlone.{IsLeft, only_then, reads_only}

module _ {A : Type 0} (first old new : State) where
  moved : (r : Result A Error) → OnOk r (IsUnchanged old new) → IfErr r (λ e. Fails old new ⊥ e ⊎ IsUnchanged old new) → IsLeft old new
  moved (Ok a) same kept = inl same
  moved (Err e) same kept = elim kept [ inl failed ↦ inr failed.3 | inr still ↦ inl still ]

  -- what was only read, is only read further
  pub only_moved : (r : Result A Error) → ReadsOnly first old → Survives old new (λ _. ⊥) → new.in_transaction ≡ false → (HasCleanDisk new → OnOk r (IsUnchanged old new)) → (HasCleanDisk new → IfErr r (λ e. Fails old new ⊥ e ⊎ IsUnchanged old new)) → ReadsOnly first new
  only_moved r only survives auto same kept = only_then only (reads_only old new (λ _. ⊥) survives (λ _ none. none) auto (λ clean. moved r (same clean) (kept clean)))
