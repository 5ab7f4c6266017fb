use Rattle.std.proofs.Common.{◌≡◌, ◌+◌, length}
use Rattle.farm_core.specs.Came.{LeadOn, seen}
use Rattle.farm_core.proofs.Leasing.{dead_rows, ended}
use Rattle.farm_core.proofs.tables.Tables.expire_reservations.Given as goal

-- what is left to do leads where the whole led
abbrev pub invariant-loop-number : goal.invariant-loop-number
invariant-loop-number l = record {
  rest : ended (seen l.self) ≡ ended (seen l.fn.self);
  counted : l.count + length (dead_rows (seen l.self)) ≡ length (dead_rows (seen l.fn.self));
  logs : LeadOn l.fn.self l.self;
}

abbrev pub decreases-loop-number : goal.decreases-loop-number
decreases-loop-number l = length (dead_rows (seen l.self))
