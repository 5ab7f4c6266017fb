use Rattle.farm_store.proofs.RowSelects.{jobs_in}
use Rattle.farm_store.proofs.jobs.JobRowStored.query.Goals as goal

pub returns : goal.returns
returns c = jobs_in c.args._edition
