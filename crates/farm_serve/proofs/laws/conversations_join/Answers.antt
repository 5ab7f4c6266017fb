use Rattle.farm_serve.proofs.ConversationLemmas.{apart, together}
use Rattle.farm_serve.proofs.laws.conversations_join.Goals as goal

pub returns : goal.returns
returns g c = λ first second old new. (apart g.S.Store first second old new, λ h. together g.S.Store first second old h.0 new h.1 h.2)
