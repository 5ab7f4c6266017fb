use Rattle.std.proofs.Common.{◌≡◌, filter, length}
use Rattle.farm_pick.specs.Choice.{passes, is_candidate}
use Rattle.farm_pick.proofs.fit.CandidatesIterator.next.Given as goal

-- what is left to lend is what was left at first
abbrev pub invariant-loop-first : goal.invariant-loop-first
invariant-loop-first l =
    filter (is_candidate (passes l.self-inside.types.now l.self-inside.free) l.self-inside.want.now) l.self-inside.boards.now
    ≡ filter (is_candidate (passes l.initial.self-inside.types.now l.initial.self-inside.free) l.initial.self-inside.want.now) l.initial.self-inside.boards.now

abbrev pub decreases-loop-first : goal.decreases-loop-first
decreases-loop-first l = length l.self-inside.boards.now
