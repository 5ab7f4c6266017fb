use Rattle.std.proofs.Common.{◌≡◌, ◌≤◌, length}
use Rattle.farm_types.specs.Names.{checks}
use Rattle.farm_core.specs.Came.{LeadOn, seen, seen_at}
use Rattle.farm_core.specs.Plain.{plain_farm}
use Rattle.farm_core.proofs.Checking.{checks_from}
use Rattle.farm_core.proofs.tables.Tables.checks.Given as goal

abbrev pub invariant-loop-at : goal.invariant-loop-at
invariant-loop-at l = record {
  rest : seen_at (checks_from l.fn.self.clock l.at (plain_farm l.self)) (seen l.self) ≡ seen_at (checks (plain_farm l.fn.self) l.fn.self.clock) (seen l.fn.self);
  clock : l.self.clock ≡ l.fn.self.clock;
  long : length l.self.boards.rows ≡ length l.fn.self.boards.rows;
  more : l.fn.self.next ≤ l.self.next;
  logs : LeadOn l.fn.self l.self;
}
