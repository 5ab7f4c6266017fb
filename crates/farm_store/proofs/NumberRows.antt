-- The rows of the farm's numbers.
use Rattle.std.proofs.Common.{◌≡◌, ◌≢◌, ◌<◌, ℕ, pos, List, [], ◌∷◌, length, get_or, Result, Ok, Err, IsErrAnd, sym, ap, subst, ◌∙◌, arith}
use Rattle.std.specs.Prelude.{⊤}
use Rattle.farm_store.proofs.Names.{AllByRecursion, column, IsWide, meta_row, MetaRow, of_meta, ReadsAs, Row}
use Rattle.sqlite.specs.declared.types.Value.TheVariants.{Int, Text}
use Rattle.farm_types.specs.declared.refusal.Refusal.{Refusal}
use Rattle.farm_store.proofs.ColumnsFrom.{whole}
use Rattle.farm_store.proofs.ReadRows.{all_at}

pub number_read : (r : Result ℕ Refusal) (row : Row) (name : List ℕ) → IsWide of_meta.width row → column row 0 ≡ Text name → ReadsAs r (λ _. ⊤) (λ n. Int (pos n)) (column row 1) → ReadsAs r (λ _. ⊤) (λ value. meta_row name value) row
number_read (Ok n) row name wide named read = (tt, sym (whole of_meta.width row wide) ∙ rw (named, read.1))
number_read (Err e) row name wide named read = λ value good is. read value good (ap (λ r. column r 1) is)

pub five_rows : (rows : List Row) (a b c d e : Row) → length rows ≡ 5 → a ≡ get_or rows 0 a → b ≡ get_or rows 1 b → c ≡ get_or rows 2 c → d ≡ get_or rows 3 d → e ≡ get_or rows 4 e → rows ≡ a ∷ b ∷ c ∷ d ∷ e ∷ []
five_rows [] a b c d e len p q r s t = absurd (omega (arith, len))
five_rows (v ∷ []) a b c d e len p q r s t = absurd (omega (arith, len))
five_rows (v ∷ w ∷ []) a b c d e len p q r s t = absurd (omega (arith, len))
five_rows (v ∷ w ∷ x ∷ []) a b c d e len p q r s t = absurd (omega (arith, len))
five_rows (v ∷ w ∷ x ∷ y ∷ []) a b c d e len p q r s t = absurd (omega (arith, len))
five_rows (v ∷ w ∷ x ∷ y ∷ z ∷ []) a b c d e len p q r s t = rw (p, q, r, s, t)
five_rows (v ∷ w ∷ x ∷ y ∷ z ∷ u ∷ rest) a b c d e len p q r s t = absurd (omega (arith, len))

pub four_rows : (rows : List Row) (a b c d : Row) → length rows ≡ 4 → a ≡ get_or rows 0 a → b ≡ get_or rows 1 b → c ≡ get_or rows 2 c → d ≡ get_or rows 3 d → rows ≡ a ∷ b ∷ c ∷ d ∷ []
four_rows [] a b c d len p q r s = absurd (omega (arith, len))
four_rows (v ∷ []) a b c d len p q r s = absurd (omega (arith, len))
four_rows (v ∷ w ∷ []) a b c d len p q r s = absurd (omega (arith, len))
four_rows (v ∷ w ∷ x ∷ []) a b c d len p q r s = absurd (omega (arith, len))
four_rows (v ∷ w ∷ x ∷ y ∷ []) a b c d len p q r s = rw (p, q, r, s)
four_rows (v ∷ w ∷ x ∷ y ∷ z ∷ rest) a b c d len p q r s = absurd (omega (arith, len))

module _ (IsGood : MetaRow → Type 0) (spelled : MetaRow → List Row) where
  -- a row that was refused refuses them all
  pub refuses_number : (r : Result MetaRow Refusal) (fault : Refusal) → IsErrAnd r (λ e. e ≡ fault) → (rows : List Row) (at : ℕ) (row : Row) (name : List ℕ) (f : MetaRow → ℕ) → at < length rows → row ≡ get_or rows at row
      → ((m : MetaRow) → get_or (spelled m) at row ≡ meta_row name (f m)) → (IsWide of_meta.width row → (value : ℕ) → ⊤ → row ≢ meta_row name value) → AllByRecursion (IsWide of_meta.width) rows → ReadsAs r IsGood spelled rows
  refuses_number (Ok m) fault is rows at row name f low there one refused wide = absurd is
  refuses_number (Err e) fault is rows at row name f low there one refused wide = λ m good same.
      refused (subst (IsWide of_meta.width) (sym there) (all_at (IsWide of_meta.width) rows at row wide low)) (f m) tt (there ∙ ap (λ l. get_or l at row) same ∙ one m)
