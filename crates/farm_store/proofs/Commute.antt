-- Rows put into a farm are rows put into its tables.
use Rattle.farm_store.proofs.Names.{BoardRow, Farm, int_cmp_is, JobRow, KeptRow, MatchOrdering, MetaRow, nat_cmp, nat_tests, put_rows, ResRow}
use Rattle.farm_store.proofs.Names.{Rows, TypeRow, value_cmp-Int, value_cmp-Text}
use Rattle.std.specs.Prelude.{◌<ℤ◌, nat_lt, ◌==◌}
use Rattle.std.proofs.lemmas.Int.{ints}
use Rattle.std.proofs.Common.{[], arith, ◌<◌, Bool, true, false, cond, ◌≡◌, ℕ, pos, List, ◌∷◌, map, refl, sym, ap, ◌∙◌, Ordering, Less, Equal, Greater}
use Rattle.std.specs.Cmp.Lexicographic.{slice_cmp}
use Rattle.sqlite.specs.declared.types.Value.TheVariants.{Int, Text}
use Rattle.sqlite_value.specs.Order.{value_cmp}
use Rattle.farm_types.specs.Table.{put, put_all, type_cmp, board_cmp, job_cmp, res_cmp, kept_cmp}
use Rattle.farm_store.specs.Columns.{rows_of, by_first, by_two, type_columns, board_columns, job_columns, res_columns, kept_columns, meta_rows, number_rows}
use Rattle.farm_store.specs.Columns.{numbers_of}
use Rattle.farm_store.proofs.PutAt.{put_tables}

module _ {X Y : Type 0} (f : X → Y) (c : Y → Y → Ordering) (d : X → X → Ordering) (same : (a b : X) → c (f a) (f b) ≡ d a b) where
  map_put : (rows : List X) (x : X) → map f (put d rows x) ≡ put c (map f rows) (f x)
  map_put [] x = refl
  map_put (r ∷ rows) x = grind (arith, map_put rows x)

  map_put_all : (rows changed : List X) → map f (put_all d rows changed) ≡ put_all c (map f rows) (map f changed)
  map_put_all rows [] = refl
  map_put_all rows (x ∷ changed) = map_put_all (put d rows x) changed ∙ ap (λ l. put_all c l (map f changed)) (map_put rows x)

by_name : (a b : List ℕ) → value_cmp (Text a) (Text b) ≡ slice_cmp nat_cmp a b
by_name a b = value_cmp-Text a b

below : (a b : ℕ) → nat_lt a b ≡ true → a < b
below a b h = grind (arith, nat_tests)

even : (a b : ℕ) → (a == b) ≡ true → a ≡ b
even a b h = grind (arith, nat_tests)

above : (a b : ℕ) → nat_lt a b ≡ false → (a == b) ≡ false → b < a
above a b h e = grind (arith, nat_tests)

ranked : (a b : ℕ) (p q : Bool) → nat_lt a b ≡ p → (a == b) ≡ q → MatchOrdering (cond p Less (cond q Equal Greater)) (pos a <ℤ pos b) (pos a ≡ pos b) (pos b <ℤ pos a)
ranked a b true q lt eq = let h = below a b lt in omega (arith, ints)
ranked a b false true lt eq = ap pos (even a b eq)
ranked a b false false lt eq = let h = above a b lt eq in omega (arith, ints)

pub by_number : (a b : ℕ) → value_cmp (Int (pos a)) (Int (pos b)) ≡ nat_cmp a b
by_number a b = value_cmp-Int (pos a) (pos b) ∙ sym (int_cmp_is (pos a) (pos b) (nat_cmp a b) (ranked a b (nat_lt a b) (a == b) refl refl))

of_types : (a b : TypeRow) → by_first (type_columns a) (type_columns b) ≡ type_cmp a b
of_types a b = by_name a.name b.name

of_boards : (a b : BoardRow) → by_first (board_columns a) (board_columns b) ≡ board_cmp a b
of_boards a b = by_name a.name b.name

of_jobs : (a b : JobRow) → by_first (job_columns a) (job_columns b) ≡ job_cmp a b
of_jobs a b = by_number a.number b.number

of_reservations : (a b : ResRow) → by_first (res_columns a) (res_columns b) ≡ res_cmp a b
of_reservations a b = by_number a.number b.number

of_kept : (a b : KeptRow) → by_two (kept_columns a) (kept_columns b) ≡ kept_cmp a b
of_kept a b = rw (by_name a.caller b.caller, by_name a.key b.key)

pub of_meta : (old new : MetaRow) → put_all by_first (meta_rows old) (number_rows new) ≡ meta_rows new
of_meta old new = simp value_cmp-Text

-- a farm's tables have its numbers
pub numbers_there : (F : Farm) → (rows_of F).meta ≡ meta_rows (numbers_of F)
unfolding rows_of
numbers_there F = refl

pub commutes : (F : Farm) (c : Rows) → rows_of (put_rows F c) ≡ put_tables (rows_of F) c
unfolding rows_of
commutes F c =
    let types = map_put_all type_columns by_first type_cmp of_types F.types c.types.items in
    let boards = map_put_all board_columns by_first board_cmp of_boards F.boards c.boards.items in
    let jobs = map_put_all job_columns by_first job_cmp of_jobs F.jobs c.jobs.items in
    let reservations = map_put_all res_columns by_first res_cmp of_reservations F.reservations c.reservations.items in
    let kept = map_put_all kept_columns by_two kept_cmp of_kept F.kept c.kept.items in
    let meta = of_meta (numbers_of F) c.meta in
    cc
