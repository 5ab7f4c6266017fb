-- In the end all were yielded.
use Rattle.std.proofs.Common.{rules, ◌+◌, ◌-◌, ◌^◌, ◌∙◌, ap, min}
use Rattle.std.proofs.lemmas.Iterator.Consumers.{YieldsList-from_deque, YieldsList-end}
use Rattle.std.specs.VecDeque.{deque_items}
use Rattle.farm_room.specs.Waiting.{held_by}
use Rattle.farm_room.proofs.RowLemmas.{adds_one}
use Rattle.farm_room.proofs.row.held.Goals as goal

pub loop-one-preserved : goal.loop-one-preserved
loop-one-preserved c =
    c.saturating_add-sum.ensures ∙ ap (λ n. min (c.loop-one.sum + n) (2 ^ 64 - 1)) c.held.ensures ∙ adds_one (λ one. one.now) c.loop-one.yielded c.in-Some.one c.loop-one.sum c.loop-one.invariant

pub returns : goal.returns
returns c =
    let all = YieldsList-end (YieldsList-from_deque (deque_items c.args.row.now) (search rules)) c.loop-one.yielded _ c.loop-one.yielded_by _ _ c.in-None.is c.next.ensures.steps in
    c.loop-one.invariant ∙ ap (λ row. min (held_by row) (2 ^ 64 - 1)) all.0
