-- The statement that puts a row into each table, and what it makes of the tables.
use Rattle.std.proofs.Common.{refl, true, ◌≡◌, ◌∙◌, ◌+◌, ◌-◌, ℕ, ℤ, zero, suc, pos, List, [], ◌∷◌, ◌++◌, ◌/◌, drop, length, codes, None, Some, Ok, slice_get}
use Rattle.std.proofs.Common.{ap, ap₂, is_eq}
use Rattle.farm_store.proofs.Names.{Abort, AllByRecursion, board_columns, BoardRow, boards_table, cast_row, Chosen, col, Column, command_of, conflicts}
use Rattle.farm_store.proofs.Names.{farm_schema, Has, HasInt, InsertOr, Int, IsInside, IsPlain, IsTable, IsWide, job_columns, JobRow, jobs_table, kept_columns}
use Rattle.farm_store.proofs.Names.{kept_table, KeptRow, Keys, lit, mended, meta_row, meta_table, next_rowid, Null, of_meta, put_at, Replace, res_columns}
use Rattle.farm_store.proofs.Names.{reservations_table, ResRow, Row, strict_table, TableRows, TableSlot, Term, type_columns, TypeRow, types_table, Upsert}
use Rattle.farm_store.proofs.Names.{value_rows, with_rowid, works}
use Rattle.sqlite.specs.Table.{Table}
use Rattle.sqlite.specs.Source.TheVariants.{Values}
use Rattle.sqlite.specs.Listing.{understood}
use Rattle.sqlite.specs.State.{State, mode_of, ExecutesInside}
use Rattle.sqlite_tied.specs.Compute.{everything}
use Rattle.farm_store.specs.declared.types.TheConstants.{PUT as PUT_TYPES}
use Rattle.farm_store.specs.declared.boards.TheConstants.{PUT as PUT_BOARDS}
use Rattle.farm_store.specs.declared.jobs.TheConstants.{PUT as PUT_JOBS}
use Rattle.farm_store.specs.declared.reservations.TheConstants.{PUT as PUT_RESERVATIONS}
use Rattle.farm_store.specs.declared.kept.TheConstants.{PUT as PUT_KEPT}
use Rattle.farm_store.specs.declared.meta.TheConstants.{PUT as PUT_META}
use Rattle.farm_store.proofs.Replace.{cast_int, cast_null, clears}
use Rattle.farm_store.proofs.Stays.{all_fit, all_stay}
use Rattle.farm_store.proofs.Keys.{by_next, by_next_two, by_rowid}
use Rattle.farm_store.proofs.Insert.{inserts, judge, the_clause}
use Rattle.farm_store.proofs.PutAt.{IsKnown, types_known, boards_known, jobs_known, reservations_known, kept_known, meta_known, of_types, of_boards, of_jobs}
use Rattle.farm_store.proofs.PutAt.{of_reservations, of_kept}

-- the text puts such a row at the place
abbrev pub Puts : TableSlot → List ℕ → Row → Type 1
Puts p text x = (old new : State) (count : ℕ) (T : TableRows) → IsInside old T → ExecutesInside 0 text x old new (Ok count) → IsInside new (put_at p T (x ∷ []))

abbrev IsPut : ℕ → TableSlot → List Term → List ℕ → Type 0
IsPut at p terms text = (command_of (understood farm_schema text) ≡ InsertOr at Replace (Values terms (suc p.width)) []) × IsPlain (understood farm_schema text)

module _ (p : TableSlot) (known : IsKnown p) (still : (keys : Keys) (olds news : List Row) → works farm_schema keys 0 p.tree olds news ≡ []) (name : List ℕ) (columns : List Column) (at : ℕ) (text : List ℕ) (terms : List Term) where
  -- a table that is keyed by columns: the store chooses the rowid
  module _ (key : List ℕ) (x : Row) where
    abbrev keyed_table : Table
    keyed_table = strict_table name p.tree columns None key (key ∷ []) (record { digits = 0 } ∷ [])

    keyed_puts : slice_get farm_schema.tables at ≡ Some keyed_table → IsPut at p terms text → all_fit columns x ≡ true → IsWide p.width x
        → value_rows (x ++ []) (suc p.width) (length terms / suc p.width) terms ≡ (Null ∷ x) ∷ [] → mended Replace keyed_table (Null ∷ x) ≡ Null ∷ x → ((id : ℤ) → p.show (Int id ∷ x) ≡ x)
        → ((raws : List Row) → IsTable raws → AllByRecursion HasInt raws → (raw : Row) → Has raws raw → conflicts None farm_schema.indexes keyed_table (Int (next_rowid raws) ∷ x) raw ≡ is_eq (p.cmp (p.show raw) x))
        → Puts p text x
    keyed_puts there is fit wide source mends shows clash old new count T inside ran =
        let db = old.now.trees in
        let id = next_rowid (db p.tree) in
        let casts : cast_row keyed_table (mended Replace keyed_table (Null ∷ x)) ≡ Null ∷ x = ap (cast_row keyed_table) mends ∙ ap₂ ◌∷◌ cast_null (all_stay columns x fit) in
        inserts p known name columns None key (key ∷ []) (record { digits = 0 } ∷ []) Replace [] (λ why. refl) at text terms (suc p.width) there is.0 is.1 old new x (Null ∷ x) (Int id ∷ x) source (ap (with_rowid Chosen (db p.tree)) casts) count T inside ran
        (λ it w h. clears known.total p.show p.width old.step_limit (mode_of old) name p.tree columns None key (key ∷ []) (record { digits = 0 } ∷ []) still x db (p.rows T) it (Int id ∷ x) x refl (ap₂ ◌∷◌ (cast_int id) (all_stay columns x fit)) (shows id) wide
        (clash (db p.tree) it.ordered it.keyed) h.0 h.1 w h.2)

  -- a table whose first column is the rowid
  module _ (n : ℤ) (rest : Row) where
    abbrev x : Row
    x = Int n ∷ rest

    abbrev stored : Row
    stored = Int n ∷ Null ∷ rest

    abbrev numbered_table : Table
    numbered_table = strict_table name p.tree columns (Some 0) (0 ∷ []) [] []

    numbered_puts : slice_get farm_schema.tables at ≡ Some numbered_table → IsPut at p terms text → all_fit columns (Null ∷ rest) ≡ true → IsWide p.width x
        → value_rows (x ++ []) (suc p.width) (length terms / suc p.width) terms ≡ stored ∷ [] → mended Replace numbered_table stored ≡ stored → p.show stored ≡ x
        → ((raw : Row) → conflicts None farm_schema.indexes numbered_table stored raw ≡ is_eq (p.cmp (p.show raw) x)) → Puts p text x
    numbered_puts there is fit wide source mends shows clash old new count T inside ran =
        let db = old.now.trees in
        let stays : cast_row numbered_table stored ≡ stored = ap₂ ◌∷◌ (cast_int n) (all_stay columns (Null ∷ rest) fit) in
        inserts p known name columns (Some 0) (0 ∷ []) [] [] Replace [] (λ why. refl) at text terms (suc p.width) there is.0 is.1 old new x stored stored source (ap (with_rowid Chosen (db p.tree)) (ap (cast_row numbered_table) mends ∙ stays)) count T inside ran
        (λ it w h. clears known.total p.show p.width old.step_limit (mode_of old) name p.tree columns (Some 0) (0 ∷ []) [] [] still x db (p.rows T) it stored x refl stays shows wide (λ raw there. clash raw) h.0 h.1 w h.2)

-- ---- the texts

abbrev pub params : ℕ → ℕ → List Term
params at zero = []
params at (suc n) = col 0 at ∷ params (suc at) n

-- the row that is put, behind a rowid that is to be chosen, and behind its first column
abbrev pub keyed_terms : TableSlot → List Term
keyed_terms p = lit Null ∷ params 0 p.width

abbrev numbered_terms : TableSlot → List Term
numbered_terms p = col 0 0 ∷ lit Null ∷ params 1 (p.width - 1)

types_is : IsPut 0 of_types (keyed_terms of_types) PUT_TYPES.now
unfolding understood everything
types_is = (refl, (refl, refl))

pub puts_type : (r : TypeRow) → Puts of_types PUT_TYPES.now (type_columns r)
puts_type r = keyed_puts of_types types_known (λ keys olds news. refl) (codes "types") types_table.columns 0 PUT_TYPES.now (keyed_terms of_types) (1 ∷ []) (type_columns r) refl types_is
    refl refl refl refl (λ id. refl) (λ raws up ints. by_next raws (type_columns r) up ints refl)

jobs_is : IsPut 2 of_jobs (numbered_terms of_jobs) PUT_JOBS.now
unfolding understood everything
jobs_is = (refl, (refl, refl))

pub puts_job : (r : JobRow) → Puts of_jobs PUT_JOBS.now (job_columns r)
puts_job r = numbered_puts of_jobs jobs_known (λ keys olds news. refl) (codes "jobs") jobs_table.columns 2 PUT_JOBS.now (numbered_terms of_jobs) (pos r.number) (drop 1 (job_columns r)) refl jobs_is
    refl refl refl refl refl (λ raw. by_rowid (pos r.number) (Null ∷ drop 1 (job_columns r)) (job_columns r) raw refl)

reservations_is : IsPut 3 of_reservations (numbered_terms of_reservations) PUT_RESERVATIONS.now
unfolding understood everything
reservations_is = (refl, (refl, refl))

pub puts_reservation : (r : ResRow) → Puts of_reservations PUT_RESERVATIONS.now (res_columns r)
puts_reservation r = numbered_puts of_reservations reservations_known (λ keys olds news. refl) (codes "reservations") reservations_table.columns 3 PUT_RESERVATIONS.now (numbered_terms of_reservations) (pos r.number) (drop 1 (res_columns r)) refl reservations_is
    refl refl refl refl refl (λ raw. by_rowid (pos r.number) (Null ∷ drop 1 (res_columns r)) (res_columns r) raw refl)

kept_is : IsPut 4 of_kept (keyed_terms of_kept) PUT_KEPT.now
unfolding understood everything
kept_is = (refl, (refl, refl))

pub puts_reply : (r : KeptRow) → Puts of_kept PUT_KEPT.now (kept_columns r)
puts_reply r = keyed_puts of_kept kept_known (λ keys olds news. refl) (codes "kept") kept_table.columns 4 PUT_KEPT.now (keyed_terms of_kept) (1 ∷ 2 ∷ []) (kept_columns r) refl kept_is
    refl refl refl refl (λ id. refl) (λ raws up ints. by_next_two raws (kept_columns r) up ints refl refl)

-- ---- the two that write over the row that is there: their clause's query is given the columns that are put, the rowid of the row that is there, and the new row

-- that row's rowid and first column, and the new row's other columns
abbrev kept_key : ℕ → List Term
kept_key width = col 1 0 ∷ col 1 0 ∷ col 1 1 ∷ params (width + 3) (width - 1)

abbrev boards_clause : Upsert
boards_clause = the_clause (codes "boards") 2 boards_table.columns of_boards.width (kept_key of_boards.width) (λ keys olds news. refl) (λ db. refl)

boards_is : (command_of (understood farm_schema PUT_BOARDS.now) ≡ InsertOr 1 Abort (Values (keyed_terms of_boards) (suc of_boards.width)) (boards_clause ∷ [])) × IsPlain (understood farm_schema PUT_BOARDS.now)
unfolding understood everything
boards_is = (refl, (refl, refl))

pub puts_board : (r : BoardRow) → Puts of_boards PUT_BOARDS.now (board_columns r)
puts_board r old new count T inside ran =
    let x = board_columns r in
    let db = old.now.trees in
    let casts : cast_row boards_table (Null ∷ x) ≡ Null ∷ x = ap₂ ◌∷◌ cast_null (all_stay boards_table.columns x refl) in
    inserts of_boards boards_known (codes "boards") boards_table.columns None (1 ∷ []) ((1 ∷ []) ∷ []) (record { digits = 0 } ∷ []) Abort (boards_clause ∷ []) (λ why. refl) 1 PUT_BOARDS.now (keyed_terms of_boards) (suc of_boards.width) refl boards_is.0 boards_is.1
    old new x (Null ∷ x) (Int (next_rowid (db 2)) ∷ x) refl (ap (with_rowid Chosen (db 2)) casts) count T inside ran
    (λ it. judge (codes "boards") 2 boards_table.columns of_boards.width (kept_key of_boards.width) (λ keys olds news. refl) (λ db. refl) (λ raw new. refl) (λ raw new. refl) (mode_of old) old.step_limit db T.boards it r.name (drop 1 x) refl refl (λ raw. refl) (λ raw. refl))

abbrev meta_clause : Upsert
meta_clause = the_clause (codes "meta") 8 meta_table.columns 2 (kept_key 2) (λ keys olds news. refl) (λ db. refl)

meta_is : (command_of (understood farm_schema PUT_META.now) ≡ InsertOr 5 Abort (Values (keyed_terms of_meta) 3) (meta_clause ∷ [])) × IsPlain (understood farm_schema PUT_META.now)
unfolding understood everything
meta_is = (refl, (refl, refl))

pub puts_number : (name : List ℕ) (value : ℕ) → Puts of_meta PUT_META.now (meta_row name value)
puts_number name value old new count T inside ran =
    let x = meta_row name value in
    let db = old.now.trees in
    let casts : cast_row meta_table (Null ∷ x) ≡ Null ∷ x = ap₂ ◌∷◌ cast_null (all_stay meta_table.columns x refl) in
    inserts of_meta meta_known (codes "meta") meta_table.columns None (1 ∷ []) ((1 ∷ []) ∷ []) (record { digits = 0 } ∷ []) Abort (meta_clause ∷ []) (λ why. refl) 5 PUT_META.now (keyed_terms of_meta) 3 refl meta_is.0 meta_is.1
    old new x (Null ∷ x) (Int (next_rowid (db 8)) ∷ x) refl (ap (with_rowid Chosen (db 8)) casts) count T inside ran
    (λ it. judge (codes "meta") 8 meta_table.columns 2 (kept_key 2) (λ keys olds news. refl) (λ db. refl) (λ raw new. refl) (λ raw new. refl) (mode_of old) old.step_limit db T.meta it name (drop 1 x) refl refl (λ raw. refl) (λ raw. refl))
