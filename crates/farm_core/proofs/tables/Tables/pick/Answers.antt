use Rattle.farm_core.proofs.tables.Tables.pick.Goals as goal

pub least_of-requires-clause-ordered : goal.least_of-requires-clause-ordered
least_of-requires-clause-ordered c = rw c.rows-boards.ensures.rows c.rows-boards.ensures.sorted
