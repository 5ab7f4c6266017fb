use Rattle.farm_pick.proofs.Spots.{next_some}
use Rattle.farm_pick.proofs.index.next_spot.Goals as goal

pub returns-in_err-rank : goal.returns-in_err-rank
returns-in_err-rank c = rw c.from_residual.ensures (λ t less. (c.range.ensures.in_range tt).5 c.in_err-rank.ensures.steps.0 (record { spot = t }) (less, tt))

pub returns : goal.returns
returns c = next_some c.args.several.now c.args.last c.in_ok-rank.rank.now c.range.result c.next.new.self (c.range.ensures.in_range tt) c.in_ok-rank.ensures.steps
