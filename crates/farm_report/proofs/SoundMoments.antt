-- The moments of a sound farm lie in the calendar.
use Rattle.std.proofs.Common.{ℕ, zero, suc, ◌<◌, ◌≡◌, Bool, true, false, List, [], ◌∷◌, length, slice_index_or, arith, refl, subst}
use Rattle.std.specs.List.{AllByRecursion, Any}
use Rattle.farm_core.specs.Shown.{Shown}
use Rattle.farm_report.specs.Moments.{last_second}
use Rattle.farm_types.specs.Names.{IsBoardRow, IsResRow, IsSound}
use Rattle.farm_types.specs.declared.rows.BoardRow.{BoardRow}
use Rattle.farm_types.specs.declared.rows.ResRow.{ResRow}

row_at : {R : Type 0} (P : R → Type 0) (rows : List R) (i : ℕ) (x : R) → AllByRecursion P rows → i < length rows → slice_index_or rows i x ≡ x → P x
row_at P [] i x all inside at = absurd (omega arith)
row_at P (r ∷ rs) zero x all inside at = subst P at all.0
row_at P (r ∷ rs) (suc i) x all inside at = row_at P rs i x all.1 (omega arith) at

pub late_board : (s : Shown) → (s.failed ≡ false → IsSound s.farm) → Any (λ (row : BoardRow). last_second < row.last_check) s.farm.boards → s.failed ≡ true
late_board s sound late = go s.failed refl
  where
    go : (b : Bool) → s.failed ≡ b → s.failed ≡ true
    go true e = e
    go false e =
        let steady = (sound e).steady in
        let row : IsBoardRow s.farm late.1 = row_at (IsBoardRow s.farm) s.farm.boards late.0 late.1 steady.boards late.2 late.3 in
        let most = row.checked in
        let clock = steady.clock in
        let after : 253402207200 < late.1.last_check = late.4 in
        absurd (omega arith)

pub late_reservation : (s : Shown) → (s.failed ≡ false → IsSound s.farm) → Any (λ (row : ResRow). last_second < row.deadline) s.farm.reservations → s.failed ≡ true
late_reservation s sound late = go s.failed refl
  where
    go : (b : Bool) → s.failed ≡ b → s.failed ≡ true
    go true e = e
    go false e =
        let steady = (sound e).steady in
        let row : IsResRow s.farm late.1 = row_at (IsResRow s.farm) s.farm.reservations late.0 late.1 steady.reservations late.2 late.3 in
        let most = row.deadline in
        let clock = steady.clock in
        let after : 253402207200 < late.1.deadline = late.4 in
        absurd (omega arith)
