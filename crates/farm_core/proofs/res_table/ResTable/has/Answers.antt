use Rattle.std.proofs.Common.{◌==◌, arith}
use Rattle.farm_core.proofs.Names.{nat_tests, ResRow}
use Rattle.farm_types.specs.Names.{IsSmallRes}
use Rattle.farm_core.proofs.Windows.{none_so}
use Rattle.farm_core.proofs.res_table.ResTable.has.Goals as goal

pub returns-else-number-one : goal.returns-else-number-one
returns-else-number-one c =
    let none = none_so (λ (r : ResRow). r.number) IsSmallRes (λ (r : ResRow). r.number == c.args.one) c.args.number c.args.self.now.rows c.rows-rows.ensures.fit
    (λ r small is. grind (arith, nat_tests, is, c.if-number-one.false)) in
    rw none (grind (arith, nat_tests, c.if-number-one.false))
