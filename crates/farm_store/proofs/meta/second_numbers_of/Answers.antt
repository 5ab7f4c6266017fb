use Rattle.std.proofs.Common.{◌≡◌, ◌<◌, codes, length, refl, sym, subst, ◌∙◌, arith, rules}
use Rattle.std.specs.Prelude.{⊤}
use Rattle.farm_store.proofs.Names.{IsWide, meta_rows, of_meta, second_schema}
use Rattle.farm_store.proofs.NumberRows.{five_rows, refuses_number}
use Rattle.farm_store.proofs.ReadRows.{all_at}
use Rattle.farm_store.proofs.meta.second_numbers_of.Goals as goal

pub returns-then-branch-eq-SCHEMA : goal.returns-then-branch-eq-SCHEMA
returns-then-branch-eq-SCHEMA c = λ wide.
    let rows = c.args.rows.now in
    let len : length rows ≡ 5 = omega arith in
    let item = λ (at : Rattle.std.proofs.Common.ℕ) (low : at < length rows) (d : _). all_at (IsWide of_meta.width) rows at d wide low in
    let clock = c.in_ok-number_of.ensures (subst (IsWide of_meta.width) (sym c.clock-item.is) (item 0 (omega arith) c.clock-item.result)) in
    let collector = c.in_ok-number_of-2.ensures (subst (IsWide of_meta.width) (sym c.collector-item.is) (item 1 (omega arith) c.collector-item.result)) in
    let count = c.in_ok-number_of-3.ensures (subst (IsWide of_meta.width) (sym c.count-item.is) (item 2 (omega arith) c.count-item.result)) in
    let next = c.in_ok-number_of-4.ensures (subst (IsWide of_meta.width) (sym c.next-item.is) (item 3 (omega arith) c.next-item.result)) in
    let schema = c.in_ok-number_of-5.ensures (subst (IsWide of_meta.width) (sym c.schema-item.is) (item 4 (omega arith) c.schema-item.result)) in
    let version : c.in_ok-number_of-5.field-0 ≡ second_schema = search rules in (
      tt,
      five_rows rows c.clock-item.result c.collector-item.result c.count-item.result c.next-item.result c.schema-item.result len c.clock-item.is c.collector-item.is c.count-item.is c.next-item.is c.schema-item.is
          ∙ rw (clock.1, collector.1, count.1, next.1, schema.1, version),
    )

pub returns-in_err-number_of-2 : goal.returns-in_err-number_of-2
returns-in_err-number_of-2 c =
    refuses_number (λ _. ⊤) meta_rows c.from_residual-in_err-number_of-2.result _ c.from_residual-in_err-number_of-2.ensures.1 c.args.rows.now 1 c.collector-item.result (codes "collector") (λ m. m.collector) (omega arith) c.collector-item.is (λ m. refl) c.in_err-number_of-2.ensures

pub returns-in_err-number_of-3 : goal.returns-in_err-number_of-3
returns-in_err-number_of-3 c =
    refuses_number (λ _. ⊤) meta_rows c.from_residual-in_err-number_of-3.result _ c.from_residual-in_err-number_of-3.ensures.1 c.args.rows.now 2 c.count-item.result (codes "count") (λ m. m.count) (omega arith) c.count-item.is (λ m. refl) c.in_err-number_of-3.ensures

pub returns-in_err-number_of-4 : goal.returns-in_err-number_of-4
returns-in_err-number_of-4 c =
    refuses_number (λ _. ⊤) meta_rows c.from_residual-in_err-number_of-4.result _ c.from_residual-in_err-number_of-4.ensures.1 c.args.rows.now 3 c.next-item.result (codes "next") (λ m. m.next) (omega arith) c.next-item.is (λ m. refl) c.in_err-number_of-4.ensures

pub returns-in_err-number_of-5 : goal.returns-in_err-number_of-5
returns-in_err-number_of-5 c =
    refuses_number (λ _. ⊤) meta_rows c.from_residual-in_err-number_of-5.result _ c.from_residual-in_err-number_of-5.ensures.1 c.args.rows.now 4 c.schema-item.result (codes "schema") (λ m. second_schema) (omega arith) c.schema-item.is (λ m. refl) c.in_err-number_of-5.ensures
