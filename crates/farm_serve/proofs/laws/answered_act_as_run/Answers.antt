use Rattle.farm_serve.proofs.ConversationLemmas.{acts_as_run}
use Rattle.farm_serve.proofs.laws.answered_act_as_run.Goals as goal

pub returns : goal.returns
returns g c = acts_as_run g.S.Store
