use Rattle.farm_desk.proofs.LineLemmas.{part_written}
use Rattle.farm_desk.proofs.command_line.print_fault.Goals as goal

pub returns-clause-printed : goal.returns-clause-printed
returns-clause-printed g c = rw c.code.ensures at (part_written _ _ _ _ c.write_fault.ensures)
