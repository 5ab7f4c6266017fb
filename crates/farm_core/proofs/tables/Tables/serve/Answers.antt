use Rattle.std.proofs.Common.{◌∙◌, ap, subst, arith}
use Rattle.farm_types.specs.Names.{Served}
use Rattle.farm_pick.specs.Queued.{queue_lists}
use Rattle.farm_core.specs.Came.{seen}
use Rattle.farm_core.specs.Plain.{plain_farm}
use Rattle.farm_core.proofs.Steps.{lead_on_join}
use Rattle.farm_core.proofs.Trying.{Trying, as_counted, goes_end, next_here, next_small, one_at_most, passed_less, passed_on, place_after, queue_few}
use Rattle.farm_core.proofs.Trying.{tried_less, tried_on, trying_begins}
use Rattle.farm_core.proofs.tables.Tables.serve.Goals as goal

pub loop-misses-init : goal.loop-misses-init
loop-misses-init c = record {
  trying = trying_begins (seen c.args.self.now) (seen c.serve_former.new.self) c.args.former c.in_ok-count.count c.requires.sound c.requires.nobody c.in_ok-count.ensures.begun;
  misses = c.in_ok-count.ensures.miss;
  logs = c.in_ok-count.ensures.logs;
}

pub try_claim-requires-clause-small : goal.try_claim-requires-clause-small
try_claim-requires-clause-small c =
    let next = next_here (plain_farm c.loop-misses.self) c.loop-misses.last c.in-Some.is c.in_ok-claim.ensures in
    next_small (plain_farm c.args.self.now) c.args.former (seen c.loop-misses.self) c.loop-misses.count c.loop-misses.last c.loop-misses.invariant.trying c.in-Some.claim.now
    next

pub overflow_add-count : goal.overflow_add-count
overflow_add-count c =
    grind (arith, one_at_most c.in_ok-served.served c.from-count.result c.from-count.ensures, c.loop-misses.invariant.trying.few, queue_few (plain_farm c.args.self.now), c.requires.sound.steady.few)

-- a claim that is tried
pub loop-misses-smaller-then-not-is_of_group : goal.loop-misses-smaller-then-not-is_of_group
loop-misses-smaller-then-not-is_of_group c =
    tried_less (plain_farm c.args.self.now) c.args.former (seen c.loop-misses.self) c.loop-misses.count c.loop-misses.last c.loop-misses.invariant.trying c.in-Some.claim.now
    (next_here (plain_farm c.loop-misses.self) c.loop-misses.last c.in-Some.is c.in_ok-claim.ensures)
    (λ d kind number. c.is_of_group.ensures d kind number ∙ c.if-not-is_of_group.true) (seen c.try_claim.new.self) c.in_ok-served.served c.in_ok-served.ensures.serves

pub loop-misses-preserved-then-not-is_of_group : goal.loop-misses-preserved-then-not-is_of_group
loop-misses-preserved-then-not-is_of_group c = record {
  trying = subst (λ n. Trying (plain_farm c.args.self.now) c.args.former (plain_farm c.try_claim.new.self) c.try_claim.new.self.queues n (place_after c.in-Some.claim.now))
      (as_counted c.loop-misses.count c.in_ok-served.served c.from-count.result c.from-count.ensures)
      (tried_on (plain_farm c.args.self.now) c.args.former (seen c.loop-misses.self) c.loop-misses.count c.loop-misses.last c.loop-misses.invariant.trying c.in-Some.claim.now
      (next_here (plain_farm c.loop-misses.self) c.loop-misses.last c.in-Some.is c.in_ok-claim.ensures)
      (λ d kind number. c.is_of_group.ensures d kind number ∙ c.if-not-is_of_group.true) (seen c.try_claim.new.self) c.in_ok-served.served c.in_ok-served.ensures.serves);
  misses = c.in_ok-served.ensures.miss;
  logs = lead_on_join _ _ _ c.loop-misses.invariant.logs c.in_ok-served.ensures.logs;
}

-- and that of the group that went first
pub loop-misses-smaller : goal.loop-misses-smaller
loop-misses-smaller c =
    let next = next_here (plain_farm c.loop-misses.self) c.loop-misses.last c.in-Some.is c.in_ok-claim.ensures in
    passed_less (plain_farm c.args.self.now) c.args.former (seen c.loop-misses.self) c.loop-misses.count c.loop-misses.last c.loop-misses.invariant.trying c.in-Some.claim.now
    next
    (λ d kind number. c.is_of_group.ensures d kind number ∙ c.if-not-is_of_group.false)

pub loop-misses-preserved : goal.loop-misses-preserved
loop-misses-preserved c =
    let next = next_here (plain_farm c.loop-misses.self) c.loop-misses.last c.in-Some.is c.in_ok-claim.ensures in
    record {
      trying = passed_on (plain_farm c.args.self.now) c.args.former (seen c.loop-misses.self) c.loop-misses.count c.loop-misses.last c.loop-misses.invariant.trying c.in-Some.claim.now
          next
          (λ d kind number. c.is_of_group.ensures d kind number ∙ c.if-not-is_of_group.false);
      misses = c.loop-misses.invariant.misses;
      logs = c.loop-misses.invariant.logs;
    }

pub returns-clause-came : goal.returns-clause-came
returns-clause-came c =
    let trying = c.loop-misses.invariant.trying in
    let end = goes_end (plain_farm c.args.self.now) c.args.former (plain_farm c.loop-misses.self) c.loop-misses.self.queues c.loop-misses.count c.loop-misses.last trying
    (next_here (plain_farm c.loop-misses.self) c.loop-misses.last c.in_default.is c.in_ok-claim.ensures) in
    record {
      now = λ i. record { farm = (end i).farm; queues = (trying.fits ∙ ap (λ (s : Served). queue_lists s.farm) end) i };
      logs = c.loop-misses.invariant.logs;
    }

pub returns-clause-count : goal.returns-clause-count
returns-clause-count c =
    let end = goes_end (plain_farm c.args.self.now) c.args.former (plain_farm c.loop-misses.self) c.loop-misses.self.queues c.loop-misses.count c.loop-misses.last c.loop-misses.invariant.trying
    (next_here (plain_farm c.loop-misses.self) c.loop-misses.last c.in_default.is c.in_ok-claim.ensures) in
    ap (λ (s : Served). s.claims) end
