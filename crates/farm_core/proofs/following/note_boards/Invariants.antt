use Rattle.std.proofs.Common.{◌≡◌, take}
use Rattle.std.specs.List.{fold}
use Rattle.farm_core.specs.Following.{free_boards_with}
use Rattle.farm_core.proofs.following.note_boards.Given as goal

abbrev pub invariant-loop-row : goal.invariant-loop-row
invariant-loop-row l = l.queues ≡ record l.fn.queues { boards = fold (free_boards_with l.types) l.fn.queues.boards (take l.row-index l.rows) }
