use Rattle.std.proofs.Common.{◌≡◌, take}
use Rattle.farm_store.specs.Texts.{untagged}
use Rattle.farm_store.proofs.upserts.tagged_rows.Given as goal

abbrev pub invariant-loop-row : goal.invariant-loop-row
invariant-loop-row g l = untagged l.tagged.items ≡ take l.row-index l.rows
