use Rattle.std.proofs.Common.{◌≡◌, length}
use Rattle.farm_core.specs.Plain.{plain_farm}
use Rattle.farm_core.proofs.Filled.{Fills}
use Rattle.farm_core.proofs.tables.Tables.fill_queues.Given as goal

abbrev pub invariant-loop-claim : goal.invariant-loop-claim
invariant-loop-claim l = record {
  farm : plain_farm l.self ≡ plain_farm l.fn.self;
  fills : Fills (plain_farm l.fn.self) l.self.queues l.claims.items;
}

abbrev pub decreases-loop-claim : goal.decreases-loop-claim
decreases-loop-claim l = length l.claims.items
