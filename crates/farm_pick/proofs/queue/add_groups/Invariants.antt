use Rattle.std.proofs.Common.{◌≡◌, ◌++◌, length}
use Rattle.farm_pick.specs.Queue.{shown_groups}
use Rattle.farm_pick.proofs.queue.add_groups.Given as goal

abbrev pub invariant-loop-job : goal.invariant-loop-job
invariant-loop-job l = l.claims.items ++ shown_groups l.rest ≡ l.fn.claims.items ++ shown_groups l.jobs

abbrev pub decreases-loop-job : goal.decreases-loop-job
decreases-loop-job l = length l.rest
