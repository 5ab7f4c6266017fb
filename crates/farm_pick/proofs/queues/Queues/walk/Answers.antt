use Rattle.std.proofs.Common.{◌∙◌, ap}
use Rattle.farm_pick.specs.Queued.{QueueLists, is_open}
use Rattle.farm_pick.specs.Heads.{last_spot}
use Rattle.farm_pick.specs.Walked.{walk_from, claims_after}
use Rattle.farm_pick.proofs.Headed.{heads_of_well}
use Rattle.farm_pick.proofs.queues.Queues.walk.Goals as goal

pub invariant_of-result : goal.invariant_of-result
invariant_of-result c = record {
  heads = heads_of_well c.self.inside.index.kinds.items c.self.inside.index.claims.entries c.self.inside.index.places.entries c.self.inside.index.idle.items c.self.invariant.well;
  cursors_at = c.in_ok-cursors_after.ensures;
}

pub returns : goal.returns
returns c =
    (λ i. walk_from c.self.inside.index.kinds.items c.self.inside.index.claims.entries c.self.inside.index.idle.items (c.last_spot-last.ensures i))
    ∙ ap (λ (l : QueueLists). claims_after (is_open l.boards) (last_spot c.args.after) l.claims) c.self.view_is
