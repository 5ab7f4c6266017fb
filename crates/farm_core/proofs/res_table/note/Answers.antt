use Rattle.farm_core.proofs.Leasing.{still_noted}
use Rattle.farm_core.proofs.res_table.note.Goals as goal

pub returns-in_ok-_added-clause-grows : goal.returns-in_ok-_added-clause-grows
returns-in_ok-_added-clause-grows c = λ lease was. still_noted _ _ _ (c.in_ok-_added.ensures.updates.0 lease) was
