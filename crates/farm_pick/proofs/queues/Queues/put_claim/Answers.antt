use Rattle.std.proofs.Common.{refl}
use Rattle.farm_pick.proofs.Calls.{refused_kind, no_claim_there, no_place_there, after_either, put_ok, put_err}
use Rattle.farm_pick.proofs.queues.Queues.put_claim.Goals as goal

pub returns-in_err-queue-clause-err : goal.returns-in_err-queue-clause-err
returns-in_err-queue-clause-err c =
    refused_kind c.self.inside.index.kinds.items c.self.inside.index.claims.entries c.self.inside.index.places.entries c.self.inside.index.idle.items c.self.invariant.well c.made_queue.new.kinds.items c.made_queue.ensures.grows c.made_queue.ensures.apart
    c.from_residual.result c.args.self.now c.self.view_is

pub put-requires-clause-claim : goal.put-requires-clause-claim
put-requires-clause-claim c =
    no_claim_there c.self.inside.index.kinds.items c.self.inside.index.claims.entries c.self.inside.index.places.entries c.self.inside.index.idle.items c.self.invariant.well c.made_queue.new.kinds.items c.made_queue.ensures.grows c.made_queue.ensures.apart
    (record { queue = c.in_ok-queue.queue; priority = c.get.result; number = c.args.claim.number }) c.args.claim c.args.self.now c.self.view_is refl c.get.ensures.number
    c.args.kind.now c.in_ok-queue.ensures.queue c.requires

pub put-requires-clause-place : goal.put-requires-clause-place
put-requires-clause-place c =
    no_place_there c.self.inside.index.kinds.items c.self.inside.index.claims.entries c.self.inside.index.places.entries c.self.inside.index.idle.items c.self.invariant.well c.made_queue.new.kinds.items c.made_queue.ensures.grows c.made_queue.ensures.apart
    (record { queue = c.in_ok-queue.queue; priority = c.get.result; number = c.args.claim.number }) c.args.claim c.args.self.now c.self.view_is refl c.get.ensures.number
    c.args.kind.now c.in_ok-queue.ensures.queue c.requires

pub invariant_of-self-2 : goal.invariant_of-self-2
invariant_of-self-2 c = rw (c.put.ensures.kinds, c.put.ensures.idle) (record {
  well = after_either c.self.inside.index.kinds.items c.self.inside.index.claims.entries c.self.inside.index.places.entries c.self.inside.index.idle.items c.self.invariant.well c.made_queue.new.kinds.items c.made_queue.ensures.grows c.made_queue.ensures.apart
      (record { queue = c.in_ok-queue.queue; priority = c.get.result; number = c.args.claim.number }) c.args.claim c.args.self.now c.self.view_is refl c.get.ensures.number
      c.args.kind.now c.in_ok-queue.ensures.queue c.requires c.put.result c.put.new.self.claims.entries c.put.new.self.places.entries
      c.put.ensures.claims c.put.ensures.claim c.put.ensures.place c.put.ensures.claims_stay c.put.ensures.places_stay;
  several = c.put.ensures.several c.self.invariant.several;
})

pub returns-clause-ok : goal.returns-clause-ok
returns-clause-ok c =
    rw (c.put.ensures.kinds, c.put.ensures.idle) (put_ok c.self.inside.index.kinds.items c.self.inside.index.claims.entries c.self.inside.index.places.entries c.self.inside.index.idle.items c.self.invariant.well c.made_queue.new.kinds.items c.made_queue.ensures.grows c.made_queue.ensures.apart
    (record { queue = c.in_ok-queue.queue; priority = c.get.result; number = c.args.claim.number }) c.args.claim c.args.self.now c.self.view_is refl c.get.ensures.number
    c.args.kind.now c.in_ok-queue.ensures.queue c.requires c.put.result c.put.new.self.claims.entries c.put.new.self.places.entries
    c.put.ensures.claims c.put.ensures.claim c.put.ensures.place c.put.ensures.claims_stay c.put.ensures.places_stay)

pub returns-clause-err : goal.returns-clause-err
returns-clause-err c =
    rw (c.put.ensures.kinds, c.put.ensures.idle) (put_err c.self.inside.index.kinds.items c.self.inside.index.claims.entries c.self.inside.index.places.entries c.self.inside.index.idle.items c.self.invariant.well c.made_queue.new.kinds.items c.made_queue.ensures.grows c.made_queue.ensures.apart
    (record { queue = c.in_ok-queue.queue; priority = c.get.result; number = c.args.claim.number }) c.args.claim c.args.self.now c.self.view_is refl c.get.ensures.number
    c.args.kind.now c.in_ok-queue.ensures.queue c.requires c.put.result c.put.new.self.claims.entries c.put.new.self.places.entries
    c.put.ensures.claims c.put.ensures.claim c.put.ensures.place c.put.ensures.claims_stay c.put.ensures.places_stay)
