-- What the query of ON CONFLICT's clause answers of the row that is there.
use Rattle.std.proofs.Common.{refl, ◌≡◌, inl, inr, ℕ, pos, negsuc, List, [], ◌∷◌, ◌++◌, map, flat_map, ap, ap₂, sym, subst, ◌∙◌, append-nil, arith, true, false}
use Rattle.std.proofs.Common.{is_eq, Less, Equal, Greater, None, Some}
use Rattle.farm_store.proofs.Names.{all_from, all_has, AllByRecursion, Binary, col, Compare, end, Eq, equal, Has, inner, int_is, is_int, is_null, IsAnswer}
use Rattle.farm_store.proofs.Names.{IsPermutation, IsTable, length_permutation, lit, matches, ordering_reverse, Output, output, overlay, page, Query, Row}
use Rattle.farm_store.proofs.Names.{rowid, Term, tied_itself, Trees, Upsert, Value, value_cmp-Null, value_cmp-Text, value_cmp_total}
use Rattle.std.proofs.lemmas.Map.Text.{is_eq-slice_cmp}
use Rattle.std.proofs.lemmas.Slice.Eq.{bytes_eq-Decides}
use Rattle.sqlite.specs.declared.types.Value.TheVariants.{Null, Int, Real, Text, Blob}
use Rattle.sqlite_sql.specs.Term.{op2, eval_all}
use Rattle.sqlite_value.specs.Order.{column, value_cmp}
use Rattle.farm_store.proofs.Keys.{equal_is_tied}
use Rattle.farm_store.proofs.Order.{permuted}

same_text : (t text : List ℕ) → value_cmp (Text t) (Text text) ≡ Equal → t ≡ text
same_text t text tie = (bytes_eq-Decides t text).0 (sym (is_eq-slice_cmp t text) ∙ ap is_eq (sym (value_cmp-Text t text) ∙ tie))

pub is_text : (v : Value) (text : List ℕ) → value_cmp v (Text text) ≡ Equal → v ≡ Text text
unfolding value_cmp
is_text Null text tie = absurd (let e = sym (value_cmp-Null (Text text)) ∙ tie in cc)
is_text (Int n) text tie = let e : Less ≡ Equal = tie in absurd (cc)
is_text (Real x) text tie = let e : Less ≡ Equal = tie in absurd (cc)
is_text (Text t) text tie = ap Text (same_text t text tie)
is_text (Blob b) text tie = let e : Greater ≡ Equal = tie in absurd (cc)

single : {O : Type 0} (x : O) (ys : List O) → IsPermutation (x ∷ []) ys → ys ≡ x ∷ []
single x [] same = absurd (let n = length_permutation (x ∷ []) [] same in omega (arith, n))
single x (y ∷ []) same = elim (permuted (x ∷ []) (y ∷ []) same y (inl refl)) [ inl is ↦ ap (λ z. z ∷ []) is | inr none ↦ absurd none ]
single x (y ∷ z ∷ ys) same = absurd (let n = length_permutation (x ∷ []) (y ∷ z ∷ ys) same in omega (arith, n))

none_of : {X : Type 0} (f : Row → List X) (rows : List Row) → AllByRecursion (λ y. f y ≡ []) rows → flat_map f rows ≡ []
none_of f [] none = refl
none_of f (y ∷ rows) none = ap₂ ◌++◌ none.0 (none_of f rows none.1)

-- one row of a table has its rowid
one_of : {X : Type 0} (f : Row → List X) (rows : List Row) (r : Row) → IsTable rows → Has rows r → ((y : Row) → is_eq (value_cmp (rowid y) (rowid r)) ≡ false → f y ≡ []) → flat_map f rows ≡ f r
one_of f [] r up h none = absurd h
one_of f (y ∷ rows) r up (inl same) none =
    let later = all_from (λ z. f z ≡ []) rows (λ z h.
    let turned : value_cmp (rowid z) (rowid y) ≡ Greater = value_cmp_total.antisymm (rowid z) (rowid y) ∙ ap ordering_reverse (all_has _ rows z up.0 h) in
    none z (ap (λ k. is_eq (value_cmp (rowid z) (rowid k))) same ∙ ap is_eq turned)) in
    ap (λ l. f y ++ l) (none_of f rows later) ∙ append-nil (f y) ∙ ap f (sym same)
one_of f (y ∷ rows) r up (inr h) none =
    ap (λ l. l ++ flat_map f rows) (none y (ap is_eq (all_has _ rows r up.0 h))) ∙ one_of f rows r up.1 h none

-- the query of a clause looks for the row that has the given rowid, and shows it as it will be written
abbrev pub query : ℕ → List Term → List Term → Query
query tree filter project = record {
  from = inner tree end;
  filter = filter;
  group = None;
  project = project;
  distinct = false;
  collations = [];
  order = [];
  limit = lit (Int (negsuc 0));
  offset = lit (Int (pos 0));
}

abbrev pub clause : List ℕ → ℕ → List Term → List Term → Upsert
clause target tree filter project = record { target = Some target; update = Some (record { lets = []; body = query tree filter project }) }

module _ (db : Trees) (tree : ℕ) (own : overlay db [] tree ≡ db tree) (filter project : List Term) (given r : Row) (up : IsTable (db tree)) (h : Has (db tree) r)
    (other : (y : Row) → is_eq (value_cmp (rowid y) (rowid r)) ≡ false → matches (overlay db []) filter end (given ∷ y ∷ []) ≡ []) (out : List Row) (a : IsAnswer (query tree filter project) (overlay db []) given out) where
  matched : matches (overlay db []) filter (inner tree end) (given ∷ []) ≡ matches (overlay db []) filter end (given ∷ r ∷ [])
  matched =
      let shown = λ (y : Row). matches (overlay db []) filter end (given ∷ y ∷ []) in
      ap (flat_map shown) own ∙ one_of shown (db tree) r up h other

  pub shows_one : matches (overlay db []) filter end (given ∷ r ∷ []) ≡ (given ∷ r ∷ []) ∷ [] → out ≡ eval_all project (given ∷ r ∷ []) ∷ []
  shows_one itself =
      let q = query tree filter project in
      let kept : a.kept ≡ output q (given ∷ r ∷ []) ∷ [] = a.distinct ∙ ap (map (output q)) (a.grouped ∙ matched ∙ itself) in
      let ordered = single (output q (given ∷ r ∷ [])) a.ordered (subst (λ k. IsPermutation k a.ordered) kept a.same) in
      a.shown ∙ ap (λ (o : List Output). page q given (map (λ it. it.1) o)) ordered

-- which rows have the rowid that is given
module _ (given r : Row) (base : ℕ) (keyed : is_int (rowid r) ≡ true) (at : column given base ≡ rowid r) where
  there : is_null (column given base) ≡ false
  there = ap is_null (at ∙ int_is (rowid r) keyed)

  pub is_same_rowid : (y : Row) → equal Binary (column y 0) (column given base) ≡ is_eq (value_cmp (rowid y) (rowid r))
  is_same_rowid y = equal_is_tied (column y 0) (column given base) there ∙ ap (λ v. is_eq (value_cmp (rowid y) v)) at

-- that is all that is asked
abbrev pub rowid_alone : ℕ → List Term
rowid_alone base = op2 (Compare Eq Binary) (col 1 0) (col 0 base) ∷ []

module _ (db : Trees) (given r : Row) (base : ℕ) (keyed : is_int (rowid r) ≡ true) (at : column given base ≡ rowid r) where
  pub others_fail : (y : Row) → is_eq (value_cmp (rowid y) (rowid r)) ≡ false → matches (overlay db []) (rowid_alone base) end (given ∷ y ∷ []) ≡ []
  others_fail y apart = rw (is_same_rowid given r base keyed at y, apart)

  pub itself_passes : matches (overlay db []) (rowid_alone base) end (given ∷ r ∷ []) ≡ (given ∷ r ∷ []) ∷ []
  itself_passes = rw (is_same_rowid given r base keyed at r, tied_itself value_cmp_total (rowid r))
