use Rattle.std.proofs.Common.{rules, ◌≡◌, length, subst, sym, ◌∙◌, arith}
use Rattle.farm_core.specs.Leases.{AreNoted}
use Rattle.farm_core.proofs.Leasing.{forgotten, none_noted, none_over, popped}
use Rattle.farm_core.proofs.res_table.first_dead.Goals as goal

pub returns-then-deadline-now-clause-none : goal.returns-then-deadline-now-clause-none
returns-then-deadline-now-clause-none c =
    none_over c.args.now c.args.table.now.rows c.in-Some.lease.now c.loop-lease.leases c.loop-lease.invariant (omega arith) c.in-Some.ensures.least

pub loop-lease-preserved : goal.loop-lease-preserved
loop-lease-preserved c =
    let removed = popped c.pop_first-over.result c.loop-lease.leases.keys c.pop_first-over.new.self.keys c.in-Some.lease.now c.in-Some.ensures.first
    (λ low. c.pop_first-over.ensures.variant.1 low) c.pop_first-over.ensures.removal in
    forgotten c.args.now c.args.table.now.rows c.in-Some.lease.now c.pop_first-over.new.self.keys c.rows-rows.ensures.sorted (omega arith)
    (sym c.is_dead_at.ensures ∙ c.if-is_dead_at.false) (subst (λ ls. AreNoted (record { keys = ls }) c.args.table.now.rows) removed c.loop-lease.invariant)

pub returns-clause-none : goal.returns-clause-none
returns-clause-none c =
    let none : length c.loop-lease.leases.keys ≡ 0 = search rules in
    none_noted c.args.now c.args.table.now.rows c.loop-lease.leases c.loop-lease.invariant none
