use Rattle.std.proofs.Common.{filter, subst, sym, ◌∙◌}
use Rattle.farm_types.specs.Names.{queue}
use Rattle.farm_core.specs.Plain.{plain_farm}
use Rattle.farm_core.proofs.Next.{Left, all_left, lends, none_left, one_left, reached}
use Rattle.farm_core.proofs.tables.Tables.next_open.Goals as goal

pub loop-claim-preserved : goal.loop-claim-preserved
loop-claim-preserved c =
    let F = plain_farm c.args.self.now in
    let it = c.loop-claim.invariant in
    one_left F c.requires.sound c.args.last it.0 c.in-Some.claim.now c.next.new.self (subst (Left F c.args.last it.0) c.in-Some.ensures.steps it.1)
    (c.is_known_miss.ensures c.if-not-is_known_miss.false)

pub returns-then-not-is_known_miss : goal.returns-then-not-is_known_miss
returns-then-not-is_known_miss c =
    let F = plain_farm c.args.self.now in
    let it = c.loop-claim.invariant in
    reached F c.requires.sound c.args.last it.0 c.in-Some.claim.now c.next.new.self (subst (Left F c.args.last it.0) c.in-Some.ensures.steps it.1)

pub returns : goal.returns
returns c =
    let F = plain_farm c.args.self.now in
    let it = c.loop-claim.invariant in
    none_left F c.requires.sound c.args.last it.0 (subst (Left F c.args.last it.0) c.in-None.ensures.steps.0 it.1)

pub loop-claim-init : goal.loop-claim-init
loop-claim-init c =
    let F = plain_farm c.args.self.now in
    let left = filter (lends F c.requires.sound c.args.last) (queue F) in (
      left,
      subst (Left F c.args.last left) (sym (c.into_iter-claim-iterator.ensures.into_iter_gives ∙ c.in_ok-claim-items.ensures))
          (all_left F c.requires.sound c.args.last c.args.self.now.queues c.requires.fits),
    )
