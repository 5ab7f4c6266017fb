use Rattle.farm_desk.proofs.LineLemmas.{part_written}
use Rattle.farm_desk.proofs.command_line.status_at.Goals as goal

pub returns-in-RefusedAt-clause-printed : goal.returns-in-RefusedAt-clause-printed
returns-in-RefusedAt-clause-printed g c = rw c.in-RefusedAt.is (part_written _ _ _ _ c.write_refusal.ensures)
