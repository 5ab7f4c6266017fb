use Rattle.std.proofs.Common.{◌≡◌, ◌<◌, codes, length, refl, sym, subst, ◌∙◌, arith, rules}
use Rattle.farm_store.proofs.Names.{first_meta_rows, first_schema, IsWide, of_meta}
use Rattle.farm_store.proofs.NumberRows.{four_rows, refuses_number}
use Rattle.farm_store.proofs.ReadRows.{all_at}
use Rattle.farm_store.proofs.meta.first_numbers_of.Goals as goal

pub returns-then-branch-eq-FIRST_SCHEMA-clause-read : goal.returns-then-branch-eq-FIRST_SCHEMA-clause-read
returns-then-branch-eq-FIRST_SCHEMA-clause-read c = λ wide.
    let rows = c.args.rows.now in
    let len : length rows ≡ 4 = omega arith in
    let item = λ (at : Rattle.std.proofs.Common.ℕ) (low : at < length rows) (d : _). all_at (IsWide of_meta.width) rows at d wide low in
    let clock = c.in_ok-number_of.ensures (subst (IsWide of_meta.width) (sym c.clock-item.is) (item 0 (omega arith) c.clock-item.result)) in
    let count = c.in_ok-number_of-2.ensures (subst (IsWide of_meta.width) (sym c.count-item.is) (item 1 (omega arith) c.count-item.result)) in
    let next = c.in_ok-number_of-3.ensures (subst (IsWide of_meta.width) (sym c.next-item.is) (item 2 (omega arith) c.next-item.result)) in
    let schema = c.in_ok-number_of-4.ensures (subst (IsWide of_meta.width) (sym c.schema-item.is) (item 3 (omega arith) c.schema-item.result)) in
    let version : c.in_ok-number_of-4.field-0 ≡ first_schema = search rules in (
      refl,
      four_rows rows c.clock-item.result c.count-item.result c.next-item.result c.schema-item.result len c.clock-item.is c.count-item.is c.next-item.is c.schema-item.is
          ∙ rw (clock.1, count.1, next.1, schema.1, version),
    )

pub returns-in_err-number_of-2-clause-read : goal.returns-in_err-number_of-2-clause-read
returns-in_err-number_of-2-clause-read c =
    refuses_number (λ m. m.collector ≡ 0) first_meta_rows c.from_residual-in_err-number_of-2.result _ c.from_residual-in_err-number_of-2.ensures.1 c.args.rows.now 1 c.count-item.result (codes "count") (λ m. m.count) (omega arith) c.count-item.is (λ m. refl) c.in_err-number_of-2.ensures

pub returns-in_err-number_of-3-clause-read : goal.returns-in_err-number_of-3-clause-read
returns-in_err-number_of-3-clause-read c =
    refuses_number (λ m. m.collector ≡ 0) first_meta_rows c.from_residual-in_err-number_of-3.result _ c.from_residual-in_err-number_of-3.ensures.1 c.args.rows.now 2 c.next-item.result (codes "next") (λ m. m.next) (omega arith) c.next-item.is (λ m. refl) c.in_err-number_of-3.ensures

pub returns-in_err-number_of-4-clause-read : goal.returns-in_err-number_of-4-clause-read
returns-in_err-number_of-4-clause-read c =
    refuses_number (λ m. m.collector ≡ 0) first_meta_rows c.from_residual-in_err-number_of-4.result _ c.from_residual-in_err-number_of-4.ensures.1 c.args.rows.now 3 c.schema-item.result (codes "schema") (λ m. first_schema) (omega arith) c.schema-item.is (λ m. refl) c.in_err-number_of-4.ensures
