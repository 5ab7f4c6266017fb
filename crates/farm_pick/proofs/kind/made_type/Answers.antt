use Rattle.std.proofs.Common.{add-one, arith}
use Rattle.farm_pick.proofs.Apart.{kind_found, kind_nowhere, kinds_after}
use Rattle.farm_pick.proofs.kind.made_type.Goals as goal

pub returns-clause-apart : goal.returns-clause-apart
returns-clause-apart c =
    kinds_after c.args.kinds.now.items c.deref.result.now c.push.new.self.items c.copy-own.result c.args.kind.now c.deref.ensures.value c.copy-own.ensures
    c.in_ok-push.ensures.items (kind_nowhere c.deref.result.now c.args.kind.now c.in_default.ensures)

pub returns-in-Some-clause-queue : goal.returns-in-Some-clause-queue
returns-in-Some-clause-queue c =
    let at = rw c.deref.ensures.value at (kind_found c.deref.result.now c.args.kind.now c.in-Some.at c.in-Some.ensures) in
    (omega (arith, at.0), rw add-one at.1)
