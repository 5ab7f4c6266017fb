use Rattle.farm_core.proofs.tables.Tables.refuse_submit.Goals as goal

pub least-least-requires : goal.least-least-requires
least-least-requires c = rw c.rows-boards.ensures.rows c.rows-boards.ensures.sorted
