use Rattle.farm_pick.proofs.Walking.{stands_in}
use Rattle.farm_pick.proofs.walk.cursor_after.Goals as goal

pub returns : goal.returns
returns c = stands_in c.args.claims.now.entries c.range-behind.ensures.ordered c.args.last c.range-behind.result c.step.result (c.range-behind.ensures.between tt) c.step.ensures
