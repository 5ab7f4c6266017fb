use Rattle.farm_core.proofs.JobLemmas.{small_found}
use Rattle.farm_core.proofs.tables.Tables.find_job.Goals as goal

pub returns-clause-small : goal.returns-clause-small
returns-clause-small c = small_found c.find.result c.args.self.now.jobs.rows c.args.number c.find.ensures.fit c.find.ensures.found
