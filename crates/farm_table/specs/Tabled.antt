-- What a table is to those that use it: its rows in order of their keys, and the log of the rows
-- that changed, each as it then was.
use Rattle.std.specs.Prelude.{◌≡◌, ◌<◌, ℕ, zero, suc, Bool, List, [], ◌∷◌, Option, Some, None, Result, Ok, Err, length, get_or, set, MatchResult, if◌then◌else◌}
use Rattle.std.specs.List.{AllByRecursion, insert}
use Rattle.std.specs.List.Sorted.{IsStrictlySortedBy}
use Rattle.std.specs.declared.cmp.Ordering.{Ordering}
use Rattle.farm_types.specs.Names.{put_all}

pub record Tabled (R : Type 0) : Type 0 where
  pub rows : List R
  pub log : List R

-- rows in the order of their keys
abbrev pub by_key : {R K : Type 0} → (R → K) → (K → K → Ordering) → R → R → Ordering
by_key key cmp a b = cmp (key a) (key b)

-- what holds of every table: the rows rise, and each row fits, also in the log
pub record IsTable {R : Type 0} (cmp : R → R → Ordering) (Fits : R → Type 0) (rows log : List R)
    : Type 0 where
  pub sorted : IsStrictlySortedBy cmp rows
  pub fit : AllByRecursion Fits rows
  pub logged : AllByRecursion Fits log

-- changed rows keep their keys, and go on to fit
pub record KeepsKeys {R K : Type 0} (key_of : R → K) (Fits : R → Type 0) (f : R → R) : Type 0 where
  pub key : (r : R) → key_of (f r) ≡ key_of r
  pub fits : (r : R) → Fits r → Fits (f r)

-- wherever the logged rows led from before, they lead from there now
pub record Leads {R : Type 0} (cmp : R → R → Ordering) (a b : Tabled R) : Type 0 where
  pub on : (start : List R) → put_all cmp start a.log ≡ a.rows → put_all cmp start b.log ≡ b.rows

-- where a search for the row that is found ends
abbrev pub IsFoundAt : {R : Type 0} → List R → Option R → Result ℕ ℕ → Type 0
IsFoundAt {R = R} rows found place = MatchResult place
    (λ at. (at < length rows) × ((d : R) → found ≡ Some (get_or rows at d)))
    (λ at. found ≡ None)

-- a row is put where a search for its key ended
abbrev pub put_in : {R : Type 0} → Result ℕ ℕ → R → List R → List R
put_in (Ok at) row rows = set rows at row
put_in (Err at) row rows = insert rows at row

-- the first rows are changed where they pass
unfoldable pub upto : {R : Type 0} → (R → Bool) → (R → R) → ℕ → List R → List R
upto test f zero rows = rows
upto test f (suc n) [] = []
upto test f (suc n) (r ∷ rows) = (if test r then f r else r) ∷ upto test f n rows

-- a change of the rows that pass has come so far, and no further
abbrev pub IsPartly : {R : Type 0} → (R → Bool) → (R → R) → List R → List R → Type 0
IsPartly test f old new = (n : ℕ) × (new ≡ upto test f n old)
