use Rattle.farm_pick.specs.Heads.{queue_open}
use Rattle.farm_pick.specs.Walked.{AreCursors}
use Rattle.farm_pick.proofs.walk.cursors_after.Given as goal

abbrev pub invariant-loop-queue : goal.invariant-loop-queue
invariant-loop-queue l = AreCursors l.index.claims.entries (queue_open l.index.idle.items) l.last l.queue l.cursors.items
