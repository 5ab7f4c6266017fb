-- Where no request was read the writer isn't called.
use Rattle.farm_http.proofs.TurnLemmas.{takes_none}
use Rattle.farm_serve.proofs.conversation.Context.converse.Goals as goal

pub returns-in-Err-clause-lost : goal.returns-in-Err-clause-lost
returns-in-Err-clause-lost g c = (0, takes_none _)
