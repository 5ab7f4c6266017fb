use Rattle.std.proofs.Common.{IsTrue, inl, inr, sym, subst, ◌≢◌, ◌∙◌, List}
use Rattle.farm_store.proofs.Names.{AllByRecursion, Edition, IsVersion, IsVersionFault, IsWide, numbers_of, of_meta, Row, state, StoreFault, table_columns_in}
use Rattle.farm_store.proofs.Names.{version_fault}
use Rattle.farm_store.proofs.EditionLemmas.{collector_in, never_handed, never_version_fault, not_bad, not_own, not_store, spelled}
use Rattle.farm_store.proofs.LeftAlone.{early, only_then}
use Rattle.farm_store.proofs.ReadFarm.{failed, known, refused, refuses_farm}
use Rattle.farm_store.proofs.ReadRows.{bad_of_no_version, if_err, on_ok}
use Rattle.farm_store.proofs.queries.read_any.Goals as goal

pub returns-in_err-numbers-clause-reads : goal.returns-in_err-numbers-clause-reads
returns-in_err-numbers-clause-reads g c clean = failed c.args.edition c.from_residual.result (state g.S.Store c.args.conn.now) c.from_residual.ensures.1

pub returns-in_err-numbers-clause-fault : goal.returns-in_err-numbers-clause-fault
returns-in_err-numbers-clause-fault g c = never_handed c.args.edition c.from_residual.result StoreFault.Store c.from_residual.ensures.1 (not_store c.args.edition)

pub returns-in_err-look_at_schema-clause-reads : goal.returns-in_err-look_at_schema-clause-reads
returns-in_err-look_at_schema-clause-reads g c clean =
    let e = c.args.edition in
    let fault = c.in_err-look_at_schema.field-0.0 in
    refused e c.from_residual-in_err-look_at_schema.result (state g.S.Store c.args.conn.now) c.in_ok-numbers.numbers.items fault c.from_residual-in_err-look_at_schema.ensures.1 (c.in_ok-numbers.ensures.opened clean) (c.in_ok-numbers.ensures.shown clean)
    (subst (IsVersionFault e fault) c.deref.ensures.value c.in_err-look_at_schema.ensures)

pub returns-in_err-look_at_schema-clause-fault : goal.returns-in_err-look_at_schema-clause-fault
returns-in_err-look_at_schema-clause-fault g c =
    never_handed c.args.edition c.from_residual-in_err-look_at_schema.result c.in_err-look_at_schema.field-0.0 c.from_residual-in_err-look_at_schema.ensures.1
    (by c.args.edition c.in_err-look_at_schema.field-0.0 c.deref.result.now c.in_err-look_at_schema.ensures)
  where
    by : (e : Edition) (fault : StoreFault) (rows : List Row) → IsVersionFault e fault rows → fault ≢ version_fault e
    by e fault rows (inl reported) is = not_own e (sym reported.0 ∙ is)
    by e fault rows (inr bad) is = not_bad e (sym bad.0 ∙ is)

pub returns-in_err-meta-clause-reads : goal.returns-in_err-meta-clause-reads
returns-in_err-meta-clause-reads g c clean =
    let e = c.args.edition in
    let result = c.from_residual-in_err-meta.result in
    let is = c.from_residual-in_err-meta.ensures.1 in
    known e result (state g.S.Store c.args.conn.now) c.in_ok-numbers.numbers.items (c.in_ok-numbers.ensures.opened clean) (c.in_ok-numbers.ensures.shown clean) (subst (IsVersion e) c.deref.ensures.value c.in_ok-look_at_schema.ensures) (if_err result StoreFault.BadStore is bad_of_no_version)
    (λ T at.
    let got = c.in_ok-numbers.ensures.rows clean (table_columns_in e) T at in
    let rows = c.deref-2.ensures.value in
    let read = c.in_err-meta.ensures.read (subst (AllByRecursion (IsWide of_meta.width)) (sym rows) got.1) in
    refuses_farm e result T StoreFault.BadStore is (λ _ F good same. read (numbers_of F) (collector_in e F good) (rows ∙ got.0 ∙ (spelled e F T same).meta)))

pub returns-in_err-meta-clause-fault : goal.returns-in_err-meta-clause-fault
returns-in_err-meta-clause-fault g c = never_handed c.args.edition c.from_residual-in_err-meta.result StoreFault.BadStore c.from_residual-in_err-meta.ensures.1 (not_bad c.args.edition)

pub returns-clause-only : goal.returns-clause-only
returns-clause-only g c = only_then c.meta_rows.ensures.only c.read_tables.ensures.only

pub returns-clause-reads : goal.returns-clause-reads
returns-clause-reads g c clean =
    let e = c.args.edition in
    let first = early c.read_tables.ensures.only clean in
    known e c.read_tables.result (state g.S.Store c.args.conn.now) c.in_ok-numbers.numbers.items (c.in_ok-numbers.ensures.opened first) (c.in_ok-numbers.ensures.shown first) (subst (IsVersion e) c.deref.ensures.value c.in_ok-look_at_schema.ensures) c.read_tables.ensures.fault
    (λ T at.
    let got = c.in_ok-numbers.ensures.rows first (table_columns_in e) T at in
    let rows = c.deref-2.ensures.value in
    let numbers = c.in_ok-meta.ensures.read (subst (AllByRecursion (IsWide of_meta.width)) (sym rows) got.1) in
    c.read_tables.ensures.read clean T (c.meta_rows.ensures.only.stands first _ T at) numbers.0 (sym (rows ∙ got.0) ∙ numbers.1))

pub returns-clause-opened : goal.returns-clause-opened
returns-clause-opened g c clean = on_ok c.read_tables.result (IsTrue (state g.S.Store c.args.conn.now).is_open) (c.in_ok-numbers.ensures.opened (early c.read_tables.ensures.only clean))

pub returns-clause-fault : goal.returns-clause-fault
returns-clause-fault g c = never_version_fault c.args.edition c.read_tables.result c.read_tables.ensures.fault
