use Rattle.farm_pick.proofs.Calls.{taken_well, taken_shown}
use Rattle.farm_pick.proofs.queues.Queues.take_board.Goals as goal

pub invariant_of-self : goal.invariant_of-self
invariant_of-self c = record {
  well = taken_well c.self.inside.index.kinds.items c.self.inside.index.claims.entries c.self.inside.index.places.entries c.self.inside.index.idle.items c.self.invariant.well c.args.name.now c.take_row.new.rows.items
      c.take_row.ensures;
  several = c.self.invariant.several;
}

pub returns : goal.returns
returns c =
    taken_shown c.self.inside.index.kinds.items c.self.inside.index.claims.entries c.self.inside.index.places.entries c.self.inside.index.idle.items c.self.invariant.well c.args.name.now c.take_row.new.rows.items
    c.take_row.ensures c.args.self.now c.self.view_is
