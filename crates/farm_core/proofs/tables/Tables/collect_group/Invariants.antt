use Rattle.farm_core.specs.Came.{LeadOn, seen}
use Rattle.farm_core.proofs.Collected.{Takes}
use Rattle.farm_core.proofs.tables.Tables.collect_group.Given as goal

abbrev pub invariant-loop-at : goal.invariant-loop-at
invariant-loop-at l = record { takes : Takes (seen l.fn.self) (seen l.self) l.fn.group l.at; logs : LeadOn l.fn.self l.self }
