use Rattle.farm_pick.proofs.Calls.{refused_kind, board_well, board_ok, board_err}
use Rattle.farm_pick.proofs.queues.Queues.put_board.Goals as goal

pub returns-in_err-queue-clause-err : goal.returns-in_err-queue-clause-err
returns-in_err-queue-clause-err c = refused_kind c.self.inside.index.kinds.items c.self.inside.index.claims.entries c.self.inside.index.places.entries c.self.inside.index.idle.items c.self.invariant.well c.made_type.new.kinds.items c.made_type.ensures.grows c.made_type.ensures.apart c.from_residual.result c.args.self.now c.self.view_is

pub invariant_of-self-2 : goal.invariant_of-self-2
invariant_of-self-2 c = record {
  well = board_well c.self.inside.index.kinds.items c.self.inside.index.claims.entries c.self.inside.index.places.entries c.self.inside.index.idle.items c.self.invariant.well c.made_type.new.kinds.items c.made_type.ensures.grows c.made_type.ensures.apart (record { name = c.args.name; queue = c.in_ok-queue.queue }) c.args.kind.now c.in_ok-queue.ensures.low c.in_ok-queue.ensures.queue c.put_row.result c.put_row.new.rows.items c.put_row.ensures.rows c.put_row.ensures.err;
  several = c.self.invariant.several;
}

pub returns-clause-ok : goal.returns-clause-ok
returns-clause-ok c = board_ok c.self.inside.index.kinds.items c.self.inside.index.claims.entries c.self.inside.index.places.entries c.self.inside.index.idle.items c.self.invariant.well c.made_type.new.kinds.items c.made_type.ensures.grows c.made_type.ensures.apart (record { name = c.args.name; queue = c.in_ok-queue.queue }) c.args.kind.now c.in_ok-queue.ensures.low c.in_ok-queue.ensures.queue c.put_row.result c.put_row.new.rows.items c.put_row.ensures.rows c.put_row.ensures.err c.args.self.now c.self.view_is

pub returns-clause-err : goal.returns-clause-err
returns-clause-err c = board_err c.self.inside.index.kinds.items c.self.inside.index.claims.entries c.self.inside.index.places.entries c.self.inside.index.idle.items c.self.invariant.well c.made_type.new.kinds.items c.made_type.ensures.grows c.made_type.ensures.apart (record { name = c.args.name; queue = c.in_ok-queue.queue }) c.args.kind.now c.in_ok-queue.ensures.low c.in_ok-queue.ensures.queue c.put_row.result c.put_row.new.rows.items c.put_row.ensures.rows c.put_row.ensures.err c.args.self.now c.self.view_is
