use Rattle.std.proofs.Common.{◌≡◌, take}
use Rattle.farm_core.specs.Following.{without_boards}
use Rattle.farm_core.specs.Serving.{names_at}
use Rattle.farm_core.proofs.following.take_boards.Given as goal

abbrev pub invariant-loop-at : goal.invariant-loop-at
invariant-loop-at l = l.queues ≡ record l.fn.queues { boards = without_boards (names_at l.boards (take l.at-index l.places)) l.fn.queues.boards }
