use Rattle.farm_jobfile.proofs.LabLemmas.{calls_in_add}
use Rattle.farm_jobfile.proofs.lab.lab_of.Goals as goal

pub returns-clause-additions : goal.returns-clause-additions
returns-clause-additions c = calls_in_add c.args.now _ _ c.calls_of.ensures
