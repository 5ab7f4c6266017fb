use Rattle.farm_serve.proofs.ConversationLemmas.{answered_again}
use Rattle.farm_serve.proofs.laws.request_answered_again.Goals as goal

pub returns : goal.returns
returns c = answered_again
