-- The columns of a row from one place on.
use Rattle.std.proofs.Common.{[], refl, ◌≡◌, ℕ, zero, suc, ◌∷◌, length, ap, ap₂, sym, ◌∙◌, arith}
use Rattle.farm_store.proofs.Names.{column, HasColumns, IsWide, Row, row_less_rowid, with_number}

abbrev pub columns_from : ℕ → ℕ → Row → Row
columns_from at zero r = []
columns_from at (suc n) r = column r at ∷ columns_from (suc at) n r

shifted : (at n : ℕ) (r : Row) → columns_from (suc at) n r ≡ columns_from at n (row_less_rowid r)
shifted at zero r = refl
shifted at (suc n) [] = ap (λ l. column [] at ∷ l) (shifted (suc at) n [])
shifted at (suc n) (v ∷ r) = ap (λ l. column r at ∷ l) (shifted (suc at) n (v ∷ r))

pub whole : (n : ℕ) (r : Row) → IsWide n r → columns_from 0 n r ≡ r
whole zero [] wide = refl
whole zero (v ∷ r) wide = absurd (omega (arith, wide))
whole (suc n) [] wide = absurd (omega (arith, wide))
whole (suc n) (v ∷ r) wide = ap (λ l. v ∷ l) (shifted 0 n (v ∷ r) ∙ whole n r (omega (arith, wide)))

spelled : (row : Row) (at : ℕ) (vs : Row) → HasColumns row at vs → columns_from at (length vs) row ≡ vs
spelled row at [] all = refl
spelled row at (v ∷ vs) all = ap₂ ◌∷◌ all.0 (spelled row (suc at) vs all.1)

spells : (row : Row) (at : ℕ) (vs : Row) → columns_from at (length vs) row ≡ vs → HasColumns row at vs
spells row at [] same = tt
spells row at (v ∷ vs) same =
    let first : column row at ≡ v = cc in
    let more : columns_from (suc at) (length vs) row ≡ vs = cc in
    (first, spells row (suc at) vs more)

-- a row is the one of its width whose columns it has
pub is_spelled : (row vs : Row) → length row ≡ length vs → HasColumns row 0 vs → row ≡ vs
is_spelled row vs wide all = sym (whole (length vs) row wide) ∙ spelled row 0 vs all

pub spells_itself : (row vs : Row) → row ≡ vs → HasColumns row 0 vs
spells_itself row vs same = spells row 0 vs (ap (columns_from 0 (length vs)) same ∙ whole (length vs) vs refl)

-- less the rowid
pub of_unnumbered : (n : ℕ) (r : Row) → columns_from 1 n r ≡ columns_from 0 n (row_less_rowid r)
of_unnumbered n r = shifted 0 n r

-- the rowid, and what follows the column that stands for it
pub of_numbered : (n : ℕ) (r : Row) → ◌≡◌ {A = Row} (column r 0 ∷ columns_from 2 n r) (columns_from 0 (suc n) (with_number r))
of_numbered n r = grind (arith, column r 0, shifted 1 n r, shifted 0 n (row_less_rowid r), shifted 0 n (with_number r))
