use Rattle.std.proofs.Common.{◌∙◌, map, ap}
use Rattle.std.proofs.lemmas.Simd.{map-map}
use Rattle.farm_types.specs.Names.{queue}
use Rattle.farm_pick.specs.Queued.{QueueLists, Queued, queued_of}
use Rattle.farm_core.specs.Plain.{plain_farm}
use Rattle.farm_core.proofs.farm.Farm.queue.Goals as goal

pub returns : goal.returns
returns c = λ working.
    let fits = (c.self.invariant (let h = working in rw (← c.self.view_is) at h)).fits in
    rw (← c.self.view_is) (c.in_ok-claims.ensures ∙ ap (λ (q : QueueLists). map (λ (x : Queued). x.claim) q.claims) fits
    ∙ map-map (λ (x : Queued). x.claim) queued_of (queue (plain_farm c.self.inside.tables)))
