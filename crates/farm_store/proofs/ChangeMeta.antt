-- The statement that writes the farm's numbers over those that are there.
use Rattle.std.proofs.Common.{refl, ◌≡◌, ◌&&◌, inl, inr, ℕ, ℤ, pos, List, [], ◌∷◌, codes, Bool, true, false, None, Ok, sym, ap, subst, ◌∙◌, is_eq, arith, Some}
use Rattle.farm_store.proofs.Names.{Binary, by_first, case, cast_row, col, command_of, Compare, differ, Eq, farm_schema, Has, id_in, int_cmp, int_cmp_total}
use Rattle.farm_store.proofs.Names.{int_is, is_int, is_ne, IsInside, IsPlain, lit, meta_row, meta_rows, meta_table, meta_values, MetaRow, Ne, number_rows}
use Rattle.farm_store.proofs.Names.{of_meta, op1, op2, put_at, Row, row_less_rowid, rowid, second_schema, TableRows, Term, tied_itself, Update, value_cmp-Int}
use Rattle.farm_store.proofs.Names.{value_cmp-Text}
use Rattle.std.specs.Str.{bytes_eq}
use Rattle.std.proofs.lemmas.Int.{ints}
use Rattle.std.proofs.lemmas.Map.Text.{is_eq-slice_cmp}
use Rattle.sqlite.specs.declared.types.Value.TheVariants.{Int, Text}
use Rattle.sqlite.specs.Table.{Table}
use Rattle.sqlite.specs.Listing.{understood}
use Rattle.sqlite.specs.State.{State, ExecutesInside}
use Rattle.sqlite_tied.specs.Compute.{everything}
use Rattle.sqlite_sql.specs.Ops.{binary, from_truth, is_true, unary}
use Rattle.sqlite_sql.specs.declared.ops.UnaryOp.TheVariants.{ToNumeric}
use Rattle.farm_types.specs.Table.{put_all as put_all_rows}
use Rattle.farm_store.specs.declared.meta.TheConstants.{CHANGE}
use Rattle.farm_store.proofs.Clause.{query}
use Rattle.farm_store.proofs.Commute.{of_meta as numbers_put}
use Rattle.farm_store.proofs.Keys.{and_true, equal_is_tied, from_test}
use Rattle.farm_store.proofs.PutAt.{meta_known}
use Rattle.farm_store.proofs.Replace.{cast_int}
use Rattle.farm_store.proofs.UpdateRows.{Turns, changes, rewrites, table as table_of, written_as}

abbrev named : List ℕ → Term
named name = op2 (Compare Eq Binary) (col 1 1) (lit (Text name))

-- the number that the row with a name is to have, or else another value
abbrev number_for : Term → Term
number_for other = case (named (codes "clock")) (col 0 0) (case (named (codes "collector")) (col 0 1) (case (named (codes "count")) (col 0 2) other))

abbrev wanted : Term
wanted = number_for (col 0 3)

abbrev wanted_or_same : Term
wanted_or_same = number_for (case (named (codes "next")) (col 0 3) (col 1 2))

abbrev tests : List Term
tests = op2 (Compare Ne Binary) (col 1 2) (op1 ToNumeric wanted_or_same) ∷ []

abbrev project : List Term
project = col 1 0 ∷ col 1 0 ∷ col 1 1 ∷ wanted ∷ []

change_is : (command_of (understood farm_schema CHANGE.now) ≡ Update 5 (record { lets = []; body = query 8 tests project })) × IsPlain (understood farm_schema CHANGE.now)
unfolding understood everything
change_is = (refl, (refl, refl))

abbrev table : Table
table = table_of of_meta meta_known (codes "meta") meta_table.columns None (1 ∷ []) ((1 ∷ []) ∷ []) (record { digits = 0 } ∷ []) 5 tests project (λ keys olds news. refl) (λ db. refl)

stays : (id : ℤ) (name : List ℕ) (value : ℕ) → cast_row table (Int id ∷ meta_row name value) ≡ Int id ∷ meta_row name value
stays id name value = rw (cast_int id, cast_int (pos value))

as_number : (n : ℤ) → unary ToNumeric (Int n) ≡ Int n
unfolding unary
as_number n = refl

differ_is : (m n : ℤ) → differ (Int m) (Int n) ≡ is_ne (int_cmp m n)
unfolding binary
differ_is m n = ap (λ o. is_true (from_truth (Some (is_ne o)))) (value_cmp-Int m n) ∙ from_test (is_ne (int_cmp m n))

same_number : (m n : ℤ) → is_ne (int_cmp m n) ≡ false → m ≡ n
same_number m n same = grind (arith, ints)

-- two names are compared byte by byte
same_name : (a b : List ℕ) → is_true (binary (Compare Eq Binary) (Text a) (Text b)) ≡ bytes_eq a b
same_name a b = equal_is_tied (Text a) (Text b) refl ∙ ap is_eq (value_cmp-Text a b) ∙ is_eq-slice_cmp a b

-- a number's name, what it was, and what it is to be
abbrev Change : Type 0
Change = List ℕ × ℕ × ℕ

abbrev row_before : Change → Row
row_before x = meta_row x.0 x.1

abbrev row_after : Change → Row
row_after x = meta_row x.0 x.2

-- all rows; the version stays
abbrev all_changes : MetaRow → MetaRow → List Change
all_changes m n = (codes "clock", m.clock, n.clock) ∷ (codes "collector", m.collector, n.collector) ∷ (codes "count", m.count, n.count) ∷ (codes "next", m.next, n.next) ∷ (codes "schema", second_schema, second_schema) ∷ []

split : (raw s : Row) → is_int (rowid raw) ≡ true → row_less_rowid raw ≡ s → raw ≡ Int (id_in (rowid raw)) ∷ s
split [] s keyed is = absurd (let e : false ≡ true = keyed in cc)
split (v ∷ rest) s keyed is = let first = int_is v keyed in rw (sym first, is) refl

module _ (m n : MetaRow) where
  abbrev passes : Row → Bool
  passes = changes table tests project (meta_values n)

  abbrev TurnsTo : Row → Row → Type 0
  TurnsTo = Turns table tests project (meta_values n) row_less_rowid

  turns_by : (id : ℤ) (name : List ℕ) (v w : ℕ) → passes (Int id ∷ meta_row name v) ≡ (is_ne (int_cmp (pos v) (pos w)) && true)
      → (passes (Int id ∷ meta_row name v) ≡ true → written_as table tests project (meta_values n) (Int id ∷ meta_row name v) ≡ Int id ∷ meta_row name w) → TurnsTo (Int id ∷ meta_row name v) (meta_row name w)
  turns_by id name v w passes_is new_is = record {
    same = λ level. ap (λ k. Text name ∷ Int k ∷ []) (same_number (pos v) (pos w) (sym (and_true _) ∙ sym passes_is ∙ level));
    new = λ up. let is = new_is up in (ap row_less_rowid is, ap rowid is);
  }

  one_turns : (id : ℤ) (x : Change) → Has (all_changes m n) x → TurnsTo (Int id ∷ row_before x) (row_after x)
  one_turns id x (inl is) = rw is (turns_by id (codes "clock") m.clock n.clock (simp (same_name, as_number) (ap (λ b. b && true) (differ_is (pos m.clock) (pos n.clock)))) (λ up. simp same_name (stays id (codes "clock") n.clock)))
  one_turns id x (inr (inl is)) = rw is (turns_by id (codes "collector") m.collector n.collector (simp (same_name, as_number) (ap (λ b. b && true) (differ_is (pos m.collector) (pos n.collector)))) (λ up. simp same_name (stays id (codes "collector") n.collector)))
  one_turns id x (inr (inr (inl is))) = rw is (turns_by id (codes "count") m.count n.count (simp (same_name, as_number) (ap (λ b. b && true) (differ_is (pos m.count) (pos n.count)))) (λ up. simp same_name (stays id (codes "count") n.count)))
  one_turns id x (inr (inr (inr (inl is)))) = rw is (turns_by id (codes "next") m.next n.next (simp (same_name, as_number) (ap (λ b. b && true) (differ_is (pos m.next) (pos n.next)))) (λ up. simp same_name (stays id (codes "next") n.next)))
  one_turns id x (inr (inr (inr (inr (inl is))))) =
      let level : passes (Int id ∷ meta_row (codes "schema") second_schema) ≡ (is_ne (int_cmp (pos second_schema) (pos second_schema)) && true) = simp (same_name, as_number) (ap (λ b. b && true) (differ_is (pos second_schema) (pos second_schema))) in
      rw is (turns_by id (codes "schema") second_schema second_schema level (λ up. absurd (let e = sym up ∙ level ∙ ap (λ o. is_ne o && true) (tied_itself int_cmp_total (pos second_schema)) in cc)))
  one_turns id x (inr (inr (inr (inr (inr none))))) = absurd none

  turns : (raw : Row) (x : Change) → Has (all_changes m n) x → is_int (rowid raw) ≡ true → row_less_rowid raw ≡ row_before x → TurnsTo raw (row_after x)
  turns raw x among keyed shows = subst (λ raw. TurnsTo raw (row_after x)) (sym (split raw (row_before x) keyed shows)) (one_turns (id_in (rowid raw)) x among)

pub changes_numbers : (old new : State) (n was : MetaRow) (count : ℕ) (T : TableRows) → IsInside old T → T.meta ≡ meta_rows was → ExecutesInside 0 CHANGE.now (meta_values n) old new (Ok count) → IsInside new (put_at of_meta T (number_rows n))
changes_numbers old new n was count T at meta ran =
    let numbers : put_all_rows by_first T.meta (number_rows n) ≡ meta_rows n = ap (λ l. put_all_rows by_first l (number_rows n)) meta ∙ numbers_put was n in
    subst (λ l. IsInside new (of_meta.replaced T l)) (sym numbers)
    (rewrites of_meta meta_known (codes "meta") meta_table.columns None (1 ∷ []) ((1 ∷ []) ∷ []) (record { digits = 0 } ∷ []) 5 tests project (λ keys olds news. refl) (λ db. refl) CHANGE.now refl change_is.0 change_is.1
    old new (meta_values n) count T (λ raw. refl) row_before row_after (all_changes was n) meta (λ x y. refl) (λ x. refl) (turns was n) at ran)
