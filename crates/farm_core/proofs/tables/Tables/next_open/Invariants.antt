use Rattle.std.proofs.Common.{List}
use Rattle.farm_types.specs.Names.{Claimed}
use Rattle.farm_core.specs.Plain.{plain_farm}
use Rattle.farm_core.proofs.Next.{Left}
use Rattle.farm_core.proofs.tables.Tables.next_open.Given as goal

-- no free boards meet the claims before those that are left
abbrev pub invariant-loop-claim : goal.invariant-loop-claim
invariant-loop-claim l = (left : List Claimed) × Left (plain_farm l.self) l.fn.last left l.claim-iterator
