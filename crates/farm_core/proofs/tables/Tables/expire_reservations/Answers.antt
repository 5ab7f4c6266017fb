use Rattle.std.proofs.Common.{◌∙◌, ap, sym, arith}
use Rattle.farm_core.specs.Came.{Seen, seen}
use Rattle.farm_core.proofs.Leasing.{dead_few, dead_fewer, ended_all, ended_on, none_dead, one_ended}
use Rattle.farm_core.proofs.Steps.{lead_on_join, stay_so}
use Rattle.farm_core.proofs.tables.Tables.expire_reservations.Goals as goal

pub loop-number-preserved : goal.loop-number-preserved
loop-number-preserved c =
    let D : Seen = seen c.loop-number.self in
    let E : Seen = seen c.end_reservation.new.self in
    let stays = stay_so c.loop-number.self _ c.first_dead.ensures.stays in
    let is = c.in_ok-end_reservation.ensures.now ∙ ap (one_ended c.in-Some.number) stays.now in
    let fewer = dead_fewer D E c.in-Some.number c.first_dead.ensures.sorted c.in-Some.ensures.dead is in
    record {
      rest = ended_on D E c.in-Some.number c.first_dead.ensures.sorted c.in-Some.ensures.dead is ∙ c.loop-number.invariant.rest;
      counted = omega (arith, fewer, c.loop-number.invariant.counted);
      logs = lead_on_join _ _ _ c.loop-number.invariant.logs (lead_on_join _ _ _ stays.logs c.in_ok-end_reservation.ensures.logs);
    }

pub loop-number-smaller : goal.loop-number-smaller
loop-number-smaller c =
    let stays = stay_so c.loop-number.self _ c.first_dead.ensures.stays in
    let is = c.in_ok-end_reservation.ensures.now ∙ ap (one_ended c.in-Some.number) stays.now in
    let fewer = dead_fewer (seen c.loop-number.self) (seen c.end_reservation.new.self) c.in-Some.number c.first_dead.ensures.sorted c.in-Some.ensures.dead is in
    omega (arith, fewer)

pub returns-clause-left : goal.returns-clause-left
returns-clause-left c =
    let stays = stay_so c.loop-number.self _ c.first_dead.ensures.stays in
    record {
      now = stays.now ∙ sym (ended_all (seen c.loop-number.self) c.in_default.ensures.none) ∙ c.loop-number.invariant.rest;
      logs = lead_on_join _ _ _ c.loop-number.invariant.logs stays.logs;
    }

pub returns-clause-count : goal.returns-clause-count
returns-clause-count c = omega (arith, c.loop-number.invariant.counted, none_dead (seen c.loop-number.self) c.in_default.ensures.none)

pub overflow_add-count : goal.overflow_add-count
overflow_add-count c =
    let few = dead_few (seen c.args.self.now) (seen c.loop-number.self) c.loop-number.invariant.rest in
    omega (arith, c.loop-number.invariant.counted, few, c.in-Some.ensures.few)
