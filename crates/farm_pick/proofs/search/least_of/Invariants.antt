use Rattle.std.proofs.Common.{◌≡◌, length, take}
use Rattle.farm_pick.specs.Choice.{passes}
use Rattle.farm_pick.proofs.Answering.{AreShortlists, candidate_by, lent}
use Rattle.farm_pick.proofs.search.least_of.Given as goal

-- the wants so far have their short lists
abbrev pub invariant-loop-i : goal.invariant-loop-i
invariant-loop-i l = record {
  four : length l.lists ≡ 4;
  short : AreShortlists (candidate_by lent l.boards (passes l.types l.free)) (length l.wants) (take l.i l.wants) (take l.i l.lists);
}
