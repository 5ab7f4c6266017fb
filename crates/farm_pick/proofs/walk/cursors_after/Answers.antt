use Rattle.std.proofs.Common.{◌+◌, sym, subst}
use Rattle.farm_pick.specs.Heads.{queue_open}
use Rattle.farm_pick.specs.Walked.{AreCursors}
use Rattle.farm_pick.proofs.Walking.{cursor_more}
use Rattle.farm_pick.proofs.walk.cursors_after.Goals as goal

pub loop-queue-preserved : goal.loop-queue-preserved
loop-queue-preserved c =
    subst (AreCursors c.args.index.now.claims.entries (queue_open c.args.index.now.idle.items) c.args.last (c.loop-queue.queue + 1)) (sym c.in_ok-push.ensures.items)
    (cursor_more c.args.index.now.claims.entries (queue_open c.args.index.now.idle.items) c.args.last c.loop-queue.queue c.loop-queue.cursors.items c.open_cursor.result
    c.loop-queue.invariant c.open_cursor.ensures)
