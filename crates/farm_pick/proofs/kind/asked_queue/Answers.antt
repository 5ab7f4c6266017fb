use Rattle.farm_pick.proofs.Apart.{asked_place}
use Rattle.farm_pick.proofs.kind.asked_queue.Goals as goal

pub returns-in-Some : goal.returns-in-Some
returns-in-Some c = λ q low high.
    rw (c.in-Some.is, c.unwrap_or.ensures) (asked_place c.args.kinds.now c.requires c.place_of.result c.in-Some.kind c.place_of.ensures q low high)
