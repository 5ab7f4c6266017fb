use Rattle.farm_serve.proofs.PrefixLemmas.{open_keeps_done, closed_keeps_prefix}
use Rattle.farm_serve.proofs.laws.conversations_keep_a_prefix.Goals as goal

pub returns : goal.returns
returns g c = record { opened = open_keeps_done g.S.Store; closed = closed_keeps_prefix g.S.Store }
