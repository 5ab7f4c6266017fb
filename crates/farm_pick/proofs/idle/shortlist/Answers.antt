use Rattle.std.proofs.Common.{arith}
use Rattle.farm_types.specs.Names.{is_free}
use Rattle.farm_pick.proofs.Listed.{listed_full, listed_past, listed_whole, listed_with}
use Rattle.farm_pick.proofs.idle.shortlist.Goals as goal
use Rattle.farm_pick.proofs.idle.shortlist.Goals.{in-Some, in_default}

pub loop-at-preserved : goal.loop-at-preserved
loop-at-preserved c =
    elim c.match-fitting_place.branch [
      | in-Some w ↦
          rw (w.found-is, w.with-found.ensures) (listed_with c.args.kinds.now c.args.rows.now.items c.args.boards.now (is_free c.args.types.now) c.args.want.now c.args.limit
          c.loop-at.at c.loop-at.found c.loop-at.invariant (omega arith) c.index.result.now c.index.ensures c.requires.ordered
          w.in-Some.place w.in-Some.ensures.found (omega arith))
      | in_default w ↦
          rw w.found-is (listed_past c.args.kinds.now c.args.rows.now.items c.args.boards.now (is_free c.args.types.now) c.args.want.now c.args.limit
          c.loop-at.at c.loop-at.found c.loop-at.invariant (omega arith) c.index.result.now c.index.ensures c.requires.idle.each
          c.asked_queue-queue.result c.asked_queue-queue.ensures w.in_default.ensures.none)
    ]

pub returns-then-len-limit : goal.returns-then-len-limit
returns-then-len-limit c =
    listed_full c.args.kinds.now c.args.rows.now.items c.args.boards.now (is_free c.args.types.now) c.args.want.now c.args.limit c.loop-at.at c.loop-at.found
    c.loop-at.invariant (omega arith)

pub returns-after-loop-at : goal.returns-after-loop-at
returns-after-loop-at c =
    listed_whole c.args.kinds.now c.args.rows.now.items c.args.boards.now (is_free c.args.types.now) c.args.want.now c.args.limit c.loop-at.at c.loop-at.found
    c.loop-at.invariant (omega arith)
