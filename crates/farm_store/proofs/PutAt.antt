-- Rows are put at one of the six places, and the others keep theirs.
use Rattle.std.proofs.Common.{refl, ◌≡◌, ◌≢◌, ◌==◌, ◌⊎◌, inl, inr, ℕ, zero, suc, ◌+◌, ◌<◌, List, [], ◌∷◌, map, take, length, get_or, IsTrue, false, sym, ap}
use Rattle.std.proofs.Common.{subst, ◌∙◌, arith, add-one}
use Rattle.farm_store.proofs.Names.{AllByRecursion, AreListed, board_columns, catalog_tree, farm_columns, farm_schema, Holds, HoldsAt, IsInside, IsTableSlot}
use Rattle.farm_store.proofs.Names.{IsTotalOrder, job_columns, kept_columns, ListsRows, nat_tests, number_rows, of_boards_with, of_jobs_with, of_kept_with}
use Rattle.farm_store.proofs.Names.{of_meta, of_reservations_with, of_types_with, put_at, res_columns, Row, Rows, ShowsTables, TableRows, TableSlot, Trees}
use Rattle.farm_store.proofs.Names.{type_columns}
use Rattle.sqlite.specs.State.{State}
use Rattle.farm_types.specs.Table.{put, put_all}
use Rattle.farm_store.proofs.Keys.{first_total, two_total}

-- the places of this version
abbrev pub of_types : TableSlot
of_types = of_types_with farm_columns.types

abbrev pub of_boards : TableSlot
of_boards = of_boards_with farm_columns.boards

abbrev pub of_jobs : TableSlot
of_jobs = of_jobs_with farm_columns.jobs

abbrev pub of_reservations : TableSlot
of_reservations = of_reservations_with farm_columns.reservations

abbrev pub of_kept : TableSlot
of_kept = of_kept_with farm_columns.kept

-- the tables with all changed rows and the four numbers put
abbrev pub put_tables : TableRows → Rows → TableRows
put_tables T c =
    put_at of_meta
    (put_at of_kept (put_at of_reservations (put_at of_jobs (put_at of_boards (put_at of_types T
    (map type_columns c.types.items)) (map board_columns c.boards.items))
    (map job_columns c.jobs.items)) (map res_columns c.reservations.items))
    (map kept_columns c.kept.items))
    (number_rows c.meta)

abbrev places : List TableSlot
places = of_types ∷ of_boards ∷ of_jobs ∷ of_reservations ∷ of_kept ∷ of_meta ∷ []

-- the six in their order
six : (P : TableSlot → Type 0) → P of_types → P of_boards → P of_jobs → P of_reservations → P of_kept → P of_meta → AllByRecursion P places
six P types boards jobs reservations kept meta = (types, (boards, (jobs, (reservations, (kept, (meta, tt))))))

apart_trees : (m n : ℕ) → (m == n) ≡ false → m ≢ n
apart_trees m n apart same = grind (arith, nat_tests)

-- another place has another tree, and keeps its rows
abbrev IsOther : TableSlot → TableSlot → Type 0
IsOther p q = (q.tree ≢ p.tree) × ((T : TableRows) (rows : List Row) → q.rows (p.replaced T rows) ≡ q.rows T)

-- one of the six places
pub record IsKnown (p : TableSlot) : Type 0 where
  pub is : IsTableSlot p
  pub total : IsTotalOrder p.cmp
  pub find : (db : Trees) (T : TableRows) → Holds db T → HoldsAt p db T
  pub others : AllByRecursion (λ q. (q ≡ p) ⊎ IsOther p q) places

other : {p q : TableSlot} → (q.tree == p.tree) ≡ false → ((T : TableRows) (rows : List Row) → q.rows (p.replaced T rows) ≡ q.rows T) → (q ≡ p) ⊎ IsOther p q
other {p} {q} apart keeps = inr ((λ same. apart_trees q.tree p.tree apart same), keeps)

abbrev is_place : {p : TableSlot} → ((T : TableRows) (rows : List Row) → p.rows (p.replaced T rows) ≡ rows) → ((T : TableRows) (rows more : List Row) → p.replaced (p.replaced T rows) more ≡ p.replaced T more)
    → ((T : TableRows) → p.replaced T (p.rows T) ≡ T) → IsTableSlot p
is_place own over same = record { own = own; over = over; same = same }

pub types_known : IsKnown of_types
types_known = record {
  is = is_place (λ T rows. refl) (λ T rows more. refl) (λ T. refl);
  total = first_total;
  find = λ db T h. h.types;
  others = six (λ q. (q ≡ of_types) ⊎ IsOther of_types q) (inl refl) (other refl (λ T rows. refl)) (other refl (λ T rows. refl)) (other refl (λ T rows. refl)) (other refl (λ T rows. refl)) (other refl (λ T rows. refl));
}

pub boards_known : IsKnown of_boards
boards_known = record {
  is = is_place (λ T rows. refl) (λ T rows more. refl) (λ T. refl);
  total = first_total;
  find = λ db T h. h.boards;
  others = six (λ q. (q ≡ of_boards) ⊎ IsOther of_boards q) (other refl (λ T rows. refl)) (inl refl) (other refl (λ T rows. refl)) (other refl (λ T rows. refl)) (other refl (λ T rows. refl)) (other refl (λ T rows. refl));
}

pub jobs_known : IsKnown of_jobs
jobs_known = record {
  is = is_place (λ T rows. refl) (λ T rows more. refl) (λ T. refl);
  total = first_total;
  find = λ db T h. h.jobs;
  others = six (λ q. (q ≡ of_jobs) ⊎ IsOther of_jobs q) (other refl (λ T rows. refl)) (other refl (λ T rows. refl)) (inl refl) (other refl (λ T rows. refl)) (other refl (λ T rows. refl)) (other refl (λ T rows. refl));
}

pub reservations_known : IsKnown of_reservations
reservations_known = record {
  is = is_place (λ T rows. refl) (λ T rows more. refl) (λ T. refl);
  total = first_total;
  find = λ db T h. h.reservations;
  others = six (λ q. (q ≡ of_reservations) ⊎ IsOther of_reservations q) (other refl (λ T rows. refl)) (other refl (λ T rows. refl)) (other refl (λ T rows. refl)) (inl refl) (other refl (λ T rows. refl)) (other refl (λ T rows. refl));
}

pub kept_known : IsKnown of_kept
kept_known = record {
  is = is_place (λ T rows. refl) (λ T rows more. refl) (λ T. refl);
  total = two_total;
  find = λ db T h. h.kept;
  others = six (λ q. (q ≡ of_kept) ⊎ IsOther of_kept q) (other refl (λ T rows. refl)) (other refl (λ T rows. refl)) (other refl (λ T rows. refl)) (other refl (λ T rows. refl)) (inl refl) (other refl (λ T rows. refl));
}

pub meta_known : IsKnown of_meta
meta_known = record {
  is = is_place (λ T rows. refl) (λ T rows more. refl) (λ T. refl);
  total = first_total;
  find = λ db T h. h.meta;
  others = six (λ q. (q ≡ of_meta) ⊎ IsOther of_meta q) (other refl (λ T rows. refl)) (other refl (λ T rows. refl)) (other refl (λ T rows. refl)) (other refl (λ T rows. refl)) (other refl (λ T rows. refl)) (inl refl);
}

-- one place has these rows now, and the other trees stay
pub record Rewritten (p : TableSlot) (old new : State) (rows : List Row) : Type 0 where
  pub schema : new.now.schema ≡ farm_schema
  pub listed : AreListed (new.now.trees catalog_tree) farm_schema
  pub others : AllByRecursion (λ t. t.tree ≢ p.tree → new.now.trees t.tree ≡ old.now.trees t.tree) farm_schema.tables
  pub lists : ListsRows p.cmp p.show p.width (new.now.trees p.tree) rows

module _ (p : TableSlot) (known : IsKnown p) (old new : State) (T : TableRows) (rows : List Row) (did : Rewritten p old new rows) where
  after : (q : TableSlot) → (q ≡ p) ⊎ IsOther p q → (q.tree ≢ p.tree → new.now.trees q.tree ≡ old.now.trees q.tree) → HoldsAt q old.now.trees T → HoldsAt q new.now.trees (p.replaced T rows)
  after q (inl same) still here =
      let own : HoldsAt p new.now.trees (p.replaced T rows) = rw (known.is.own T rows) did.lists in
      subst (λ (k : TableSlot). HoldsAt k new.now.trees (p.replaced T rows)) (sym same) own
  after q (inr apart) still here = rw (still apart.0, apart.1 T rows) here

  all_after : (qs : List TableSlot) → AllByRecursion (λ q. (q ≡ p) ⊎ IsOther p q) qs → AllByRecursion (λ q. q.tree ≢ p.tree → new.now.trees q.tree ≡ old.now.trees q.tree) qs
      → AllByRecursion (λ q. HoldsAt q old.now.trees T) qs → AllByRecursion (λ q. HoldsAt q new.now.trees (p.replaced T rows)) qs
  all_after [] others still here = tt
  all_after (q ∷ qs) others still here = (after q others.0 still.0 here.0, all_after qs others.1 still.1 here.1)

  pub stands_rewritten : ShowsTables old.now T → IsTrue new.in_transaction → IsInside new (p.replaced T rows)
  stands_rewritten at inside =
      let h = at.holds in
      let now = all_after places known.others did.others (six (λ q. HoldsAt q old.now.trees T) h.types h.boards h.jobs h.reservations h.kept h.meta) in
      record {
        inside = inside;
        shown = λ still_open. record {
          schema = did.schema;
          holds = record { listed = did.listed; types = now.0; boards = now.1.0; jobs = now.1.1.0; reservations = now.1.1.1.0; kept = now.1.1.1.1.0; meta = now.1.1.1.1.1.0 };
        };
      }

-- ---- one row after another

module _ {X : Type 0} (p : TableSlot) (is : IsTableSlot p) (columns : X → Row) where
  one_more : (rows : List X) (i : ℕ) (d : X) (now : List Row) → i < length rows
      → put_all p.cmp now (map columns (take (suc i) rows)) ≡ put p.cmp (put_all p.cmp now (map columns (take i rows))) (columns (get_or rows i d))
  one_more [] i d now low = absurd (omega arith)
  one_more (x ∷ rows) zero d now low = refl
  one_more (x ∷ rows) (suc i) d now low = one_more rows i d (put p.cmp now (columns x)) (omega arith)

  -- the first rows, and then the next one
  pub put_more : (T : TableRows) (rows : List X) (i : ℕ) (d : X) → i < length rows
      → put_at p T (map columns (take (i + 1) rows)) ≡ put_at p (put_at p T (map columns (take i rows))) (columns (get_or rows i d) ∷ [])
  put_more T rows i d low =
      let first = put_all p.cmp (p.rows T) (map columns (take i rows)) in
      let x = columns (get_or rows i d) in
      ap (λ k. put_at p T (map columns (take k rows))) (add-one i) ∙ ap (p.replaced T) (one_more rows i d (p.rows T) low)
      ∙ sym (is.over T first (put p.cmp (p.rows (p.replaced T first)) x) ∙ ap (λ l. p.replaced T (put p.cmp l x)) (is.own T first))
