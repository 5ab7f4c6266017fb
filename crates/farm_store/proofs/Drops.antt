-- The tables are taken away.
use Rattle.std.proofs.Common.{◌≡◌, ℕ, List, [], Some, None, Ok, codes, refl, ap, subst, ◌∙◌}
use Rattle.sqlite.specs.Table.{Table}
use Rattle.sqlite.specs.Schema.{Schema}
use Rattle.farm_store.proofs.Names.{AtPlace, command_of, Database, Drops, DropTable, HasRun, HasSixTables, IsPlain, no_schema, runs_as, statement_of, Tally}
use Rattle.farm_store.proofs.Names.{Task}
use Rattle.sqlite_catalog.specs.Change.{without_table}
use Rattle.sqlite_tied.specs.Compute.{everything}
use Rattle.sqlite.specs.Listing.{understood}
use Rattle.sqlite.specs.State.{State, Writes, mode_of}
use Rattle.std.specs.Prelude.{slice_get}
use Rattle.farm_store.proofs.Replace.{went, same_value}

-- the table that comes first is taken away
drops : (old new : State) (text : List ℕ) (s : Schema) (t : Table) → old.now.schema ≡ s → slice_get s.tables 0 ≡ Some t → HasRun text old new → command_of (understood s text) ≡ DropTable 0
    → statement_of text (understood s text) ≡ text → IsPlain (understood s text) → new.now.schema ≡ without_table s t.tree
drops old new text s t has there ran is whole plain =
    let w = subst (λ u. Writes old new None (DropTable 0) u [] ran.0) whole (runs_as text [] old new s has (DropTable 0) is plain ran.0 ran.1) in
    let task : Task = record { limit = old.step_limit; keys = (mode_of old).keys; schema = old.now.schema; table = t; params = [] } in
    let on : Drops task (mode_of old) old.now.trees (Ok (w.tally, new.now)) =
    subst (λ x. AtPlace (λ table. Drops (record task { table = table }) (mode_of old) old.now.trees) x (Ok (w.tally, new.now))) (ap (λ (u : Schema). slice_get u.tables 0) has ∙ there) w.changed in
    let emptied = went on in
    let counted = went emptied.2 in
    let tested = went counted.2 in
    let left = went tested.2 in
    ap (λ (p : Tally × Database). p.1.schema) (same_value left.2) ∙ left.1.0 ∙ ap (λ u. without_table u t.tree) has

-- nothing is left of the farm's tables
pub drops_all : (a b c d e f h : State) → HasSixTables a.now.schema → HasRun (codes "DROP TABLE types") a b → HasRun (codes "DROP TABLE boards") b c → HasRun (codes "DROP TABLE jobs") c d
    → HasRun (codes "DROP TABLE reservations") d e → HasRun (codes "DROP TABLE kept") e f → HasRun (codes "DROP TABLE meta") f h → h.now.schema ≡ no_schema
unfolding understood everything
drops_all a b c d e f h (k0, k1, k2, k3, k4, k5, has) one two three four five six =
    let types = drops a b (codes "DROP TABLE types") _ _ has refl one refl refl (refl, refl) in
    let boards = drops b c (codes "DROP TABLE boards") _ _ types refl two refl refl (refl, refl) in
    let jobs = drops c d (codes "DROP TABLE jobs") _ _ boards refl three refl refl (refl, refl) in
    let reservations = drops d e (codes "DROP TABLE reservations") _ _ jobs refl four refl refl (refl, refl) in
    let kept = drops e f (codes "DROP TABLE kept") _ _ reservations refl five refl refl (refl, refl) in
    drops f h (codes "DROP TABLE meta") _ _ kept refl six refl refl (refl, refl)
