use Rattle.farm_pick.specs.Choice.{passes, candidate_at}
use Rattle.farm_pick.proofs.Choices.{IsShortlistBelow}
use Rattle.farm_pick.proofs.search.shortlist.Given as goal

-- the places that were looked at have their short list
abbrev pub invariant-loop-place : goal.invariant-loop-place
invariant-loop-place l = IsShortlistBelow (candidate_at l.boards (passes l.types l.free) l.want) l.limit l.place l.found
