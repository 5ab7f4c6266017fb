use Rattle.std.proofs.Common.{length}
use Rattle.farm_core.proofs.kept.KeptRepliesDebug.fmt.Given as goal

abbrev pub decreases-loop-packed : goal.decreases-loop-packed
decreases-loop-packed g l = length l.packed

abbrev pub decreases-loop-packed-2 : goal.decreases-loop-packed-2
decreases-loop-packed-2 g l = length l.packed
