-- Which rows have the key of a new row.
use Rattle.std.proofs.Common.{refl, ◌≡◌, ℤ, List, [], ◌∷◌, Bool, true, false, ◌||◌, ◌&&◌, sym, ap, ◌∙◌, Ordering, Less, Equal, Greater, is_eq, Some}
use Rattle.farm_store.proofs.Names.{agree, all_has, AllByRecursion, Binary, by_first, by_two, Chosen, equal, false_from_ne_true, Has, HasInt, is_int, is_taken}
use Rattle.farm_store.proofs.Names.{IsTable, IsTotalOrder, next_is_free, next_rowid, on_total, ordering_then, Row, row_less_rowid, rowid, some_from, then_total}
use Rattle.farm_store.proofs.Names.{Value, value_cmp-Null, value_cmp_total, with_number}
use Rattle.sqlite.specs.declared.types.Value.TheVariants.{Null, Int, Real, Text, Blob}
use Rattle.sqlite_value.specs.Order.{column, value_cmp}
use Rattle.sqlite_value.specs.Keys.{plain, first_key}
use Rattle.sqlite_sql.specs.Ops.{binary, is_null, is_true, from_truth}

pub first_total : IsTotalOrder by_first
first_total = on_total (λ (r : Row). column r 0) value_cmp_total

pub two_total : IsTotalOrder by_two
two_total = then_total (on_total (λ (r : Row). column r 0) value_cmp_total) (on_total (λ (r : Row). column r 1) value_cmp_total)

pub from_test : (b : Bool) → is_true (from_truth (Some b)) ≡ b
from_test true = refl
from_test false = refl

both_there : (a b : Value) → is_null a ≡ false → is_null b ≡ false → equal Binary a b ≡ is_eq (value_cmp a b)
unfolding binary
both_there a b p q = rw (p, q, from_test)

null_apart : (b : Value) → is_null b ≡ false → equal Binary Null b ≡ is_eq (value_cmp Null b)
unfolding binary
null_apart Null q = absurd (cc)
null_apart (Int n) q = rw (value_cmp-Null (Int n))
null_apart (Real x) q = rw (value_cmp-Null (Real x))
null_apart (Text t) q = rw (value_cmp-Null (Text t))
null_apart (Blob b) q = rw (value_cmp-Null (Blob b))

-- a value that is not NULL equals those that tie with it
pub equal_is_tied : (a b : Value) → is_null b ≡ false → equal Binary a b ≡ is_eq (value_cmp a b)
equal_is_tied Null b q = null_apart b q
equal_is_tied (Int n) b q = both_there (Int n) b refl q
equal_is_tied (Real x) b q = both_there (Real x) b refl q
equal_is_tied (Text t) b q = both_there (Text t) b refl q
equal_is_tied (Blob t) b q = both_there (Blob t) b refl q

pub and_true : (b : Bool) → (b && true) ≡ b
and_true true = refl
and_true false = refl

pub or_false : (b : Bool) → (b || false) ≡ b
or_false true = refl
or_false false = refl

then_is : (a b : Ordering) → is_eq (ordering_then a b) ≡ (is_eq a && is_eq b)
then_is Less b = refl
then_is Equal b = refl
then_is Greater b = refl

pub agree_one : (a b : Row) → is_null (column b 0) ≡ false → agree plain (0 ∷ []) a (0 ∷ []) b ≡ is_eq (value_cmp (column a 0) (column b 0))
unfolding first_key
agree_one a b q = and_true _ ∙ equal_is_tied (column a 0) (column b 0) q

pub agree_next : (v w : Value) (a b : Row) → is_null (column b 0) ≡ false → agree plain (1 ∷ []) (v ∷ a) (1 ∷ []) (w ∷ b) ≡ is_eq (by_first a b)
unfolding first_key
agree_next v w a b q = and_true _ ∙ equal_is_tied (column a 0) (column b 0) q

agree_two : (v w : Value) (a b : Row) → is_null (column b 0) ≡ false → is_null (column b 1) ≡ false → agree plain (1 ∷ 2 ∷ []) (v ∷ a) (1 ∷ 2 ∷ []) (w ∷ b) ≡ is_eq (by_two a b)
unfolding first_key
agree_two v w a b p q =
    ap (λ t. equal Binary (column a 0) (column b 0) && t) (and_true _ ∙ equal_is_tied (column a 1) (column b 1) q)
    ∙ ap (λ t. t && is_eq (value_cmp (column a 1) (column b 1))) (equal_is_tied (column a 0) (column b 0) p)
    ∙ sym (then_is (value_cmp (column a 0) (column b 0)) (value_cmp (column a 1) (column b 1)))

module _ (raws : List Row) (x : Row) (ordered : IsTable raws) (keyed : AllByRecursion HasInt raws) where
  abbrev new : Row
  new = Int (next_rowid raws) ∷ x

  -- the rowid of a new row is free
  other_rowid : (raw : Row) → Has raws raw → agree plain (0 ∷ []) raw (0 ∷ []) new ≡ false
  other_rowid raw h =
      let free : is_taken raws new ≡ false = next_is_free Chosen raws x ordered keyed in
      let apart : is_eq (value_cmp (rowid raw) (Int (next_rowid raws))) ≡ false =
      false_from_ne_true _ (λ tie. let e = sym free ∙ some_from (λ r. is_eq (value_cmp (rowid r) (rowid new))) raws raw h tie in cc) in
      agree_one raw new refl ∙ apart

  -- so only rows with its key conflict
  pub by_next : is_null (column x 0) ≡ false → (raw : Row) → Has raws raw
      → (agree plain (0 ∷ []) raw (0 ∷ []) new || (agree plain (1 ∷ []) raw (1 ∷ []) new || false)) ≡ is_eq (by_first (row_less_rowid raw) x)
  by_next there [] h = absurd (let int : is_int (rowid []) ≡ true = all_has HasInt raws [] keyed h in cc)
  by_next there (v ∷ rest) h =
      ap (λ b. b || (agree plain (1 ∷ []) (v ∷ rest) (1 ∷ []) new || false)) (other_rowid (v ∷ rest) h) ∙ or_false _ ∙ agree_next v (Int (next_rowid raws)) rest x there

  pub by_next_two : is_null (column x 0) ≡ false → is_null (column x 1) ≡ false → (raw : Row) → Has raws raw
      → (agree plain (0 ∷ []) raw (0 ∷ []) new || (agree plain (1 ∷ 2 ∷ []) raw (1 ∷ 2 ∷ []) new || false)) ≡ is_eq (by_two (row_less_rowid raw) x)
  by_next_two there too [] h = absurd (let int : is_int (rowid []) ≡ true = all_has HasInt raws [] keyed h in cc)
  by_next_two there too (v ∷ rest) h =
      ap (λ b. b || (agree plain (1 ∷ 2 ∷ []) (v ∷ rest) (1 ∷ 2 ∷ []) new || false)) (other_rowid (v ∷ rest) h) ∙ or_false _ ∙ agree_two v (Int (next_rowid raws)) rest x there too

-- where the key is the rowid
pub by_rowid : (n : ℤ) (a x raw : Row) → column x 0 ≡ Int n → (agree plain (0 ∷ []) raw (0 ∷ []) (Int n ∷ a) || false) ≡ is_eq (by_first (with_number raw) x)
by_rowid n a x raw is = or_false _ ∙ agree_one raw (Int n ∷ a) refl ∙ ap (λ v. is_eq (value_cmp (column raw 0) v)) (sym is)
