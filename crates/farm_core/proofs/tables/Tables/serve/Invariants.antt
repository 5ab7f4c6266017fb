use Rattle.farm_core.specs.Came.{LeadOn}
use Rattle.farm_core.specs.Plain.{plain_farm}
use Rattle.farm_core.specs.Serving.{AreMisses}
use Rattle.farm_core.proofs.Trying.{Trying, left}
use Rattle.farm_core.proofs.tables.Tables.serve.Given as goal

abbrev pub invariant-loop-misses : goal.invariant-loop-misses
invariant-loop-misses l = record {
  trying : Trying (plain_farm l.fn.self) l.fn.former (plain_farm l.self) l.self.queues l.count l.last;
  misses : AreMisses (plain_farm l.self) l.misses.items;
  logs : LeadOn l.fn.self l.self;
}

abbrev pub decreases-loop-misses : goal.decreases-loop-misses
decreases-loop-misses l = left l.self.queues l.last
