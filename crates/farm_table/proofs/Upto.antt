-- Rows that are changed one after another from the first on.
use Rattle.std.proofs.Common.{◌≡◌, ℕ, zero, suc, ◌<◌, ◌≤◌, List, [], ◌∷◌, length, set, get_or, Bool, true, false, cond, refl, sym, ap, arith}
use Rattle.farm_types.specs.Names.{change_where}
use Rattle.farm_table.specs.Tabled.{upto}

-- an element is the same by any default
pub at_any : {R : Type 0} (rows : List R) (n : ℕ) (row d : R) → n < length rows → row ≡ get_or rows n row → get_or rows n d ≡ row
at_any [] n row d low is = absurd (omega arith)
at_any (r ∷ rows) zero row d low is = sym is
at_any (r ∷ rows) (suc n) row d low is = at_any rows n row d (omega arith) is

module _ {R : Type 0} (test : R → Bool) (f : R → R) where
  pub upto_long : (n : ℕ) (rows : List R) → length (upto test f n rows) ≡ length rows
  unfolding upto
  upto_long zero rows = refl
  upto_long (suc n) [] = refl
  upto_long (suc n) (r ∷ rows) = ap suc (upto_long n rows)

  -- the row behind them is as it was
  pub upto_next : (n : ℕ) (rows : List R) (d : R) → get_or (upto test f n rows) n d ≡ get_or rows n d
  unfolding upto
  upto_next zero rows d = refl
  upto_next (suc n) [] d = refl
  upto_next (suc n) (r ∷ rows) d = upto_next n rows d

  -- one more
  pub upto_more : (n : ℕ) (rows : List R) → n < length rows → ((d : R) → test (get_or rows n d) ≡ true) → (d : R) → set (upto test f n rows) n (f (get_or rows n d)) ≡ upto test f (suc n) rows
  unfolding upto
  upto_more n [] low passes d = absurd (omega arith)
  upto_more zero (r ∷ rows) low passes d = rw (passes r)
  upto_more (suc n) (r ∷ rows) low passes d = ap (λ rest. cond (test r) (f r) r ∷ rest) (upto_more n rows (omega arith) passes d)

  pub upto_same : (n : ℕ) (rows : List R) → ((d : R) → n < length rows → test (get_or rows n d) ≡ false) → upto test f (suc n) rows ≡ upto test f n rows
  unfolding upto
  upto_same zero [] fails = refl
  upto_same (suc n) [] fails = refl
  upto_same zero (r ∷ rows) fails = rw (fails r (omega arith))
  upto_same (suc n) (r ∷ rows) fails = ap (λ rest. cond (test r) (f r) r ∷ rest) (upto_same n rows (λ d low. fails d (omega arith)))

  -- where none before passes, nothing has changed
  pub upto_none : (n : ℕ) (rows : List R) → ((k : ℕ) (d : R) → k < n → k < length rows → test (get_or rows k d) ≡ false) → upto test f n rows ≡ rows
  unfolding upto
  upto_none zero rows fails = refl
  upto_none (suc n) [] fails = refl
  upto_none (suc n) (r ∷ rows) fails =
      let here : test r ≡ false = fails 0 r (omega arith) (omega arith) in
      let rest = upto_none n rows (λ k d low in_range. fails (suc k) d (omega arith) (omega arith)) in
      rw here (ap (λ rest. r ∷ rest) rest)

  -- where none behind passes, all is done
  pub upto_all : (n : ℕ) (rows : List R) → ((k : ℕ) (d : R) → n ≤ k → k < length rows → test (get_or rows k d) ≡ false) → upto test f n rows ≡ change_where test f rows
  unfolding upto
  upto_all zero [] fails = refl
  upto_all zero (r ∷ rows) fails =
      let here : test r ≡ false = fails 0 r (omega arith) (omega arith) in
      rw here (ap (λ rest. r ∷ rest) (upto_all zero rows (λ k d low in_range. fails (suc k) d (omega arith) (omega arith))))
  upto_all (suc n) [] fails = refl
  upto_all (suc n) (r ∷ rows) fails =
      ap (λ rest. cond (test r) (f r) r ∷ rest) (upto_all n rows (λ k d low in_range. fails (suc k) d (omega arith) (omega arith)))
