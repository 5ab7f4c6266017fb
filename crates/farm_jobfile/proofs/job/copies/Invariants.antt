use Rattle.std.proofs.Common.{◌≡◌, replicate}
use Rattle.farm_jobfile.proofs.job.copies.Given as goal

abbrev pub invariant-loop : goal.invariant-loop
invariant-loop l = l.members.items ≡ replicate l.counter l.member
