use Rattle.std.proofs.Common.{length}
use Rattle.farm_core.specs.Leases.{AreNoted}
use Rattle.farm_core.proofs.res_table.first_dead.Given as goal

abbrev pub invariant-loop-lease : goal.invariant-loop-lease
invariant-loop-lease l = AreNoted l.leases l.table.rows

abbrev pub decreases-loop-lease : goal.decreases-loop-lease
decreases-loop-lease l = length l.leases.keys
