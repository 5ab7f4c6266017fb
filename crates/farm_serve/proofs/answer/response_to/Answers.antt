-- The keeper's answer and its faults, as what is due.
use Rattle.std.proofs.Common.{subst}
use Rattle.farm_serve.specs.Names.{bytes_in, IsEncoded}
use Rattle.farm_serve.proofs.AnswerLemmas.{call_is_response, fault_is_response}
use Rattle.farm_serve.proofs.answer.response_to.Goals as goal

pub returns-in-Ok-clause-response : goal.returns-in-Ok-clause-response
returns-in-Ok-clause-response g c =
    rw c.in-Call.is (call_is_response g.S.Store c.args.keeper.now c.act.new.self _ _ _ _ c.in-Ok.ensures.answer c.in-Ok.ensures.farm
    c.in-Ok.ensures.opened c.in-Ok.ensures.stands (subst (λ out. IsEncoded out (bytes_in c.of.result.bytes) c.of.result.end) c.reply_of.ensures c.of.ensures))

pub returns-in-Err-clause-response : goal.returns-in-Err-clause-response
returns-in-Err-clause-response g c =
    rw (c.in-Call.is, c.closing.ensures.end) (fault_is_response g.S.Store c.args.keeper.now c.act.new.self _ c.in-Err.fault _ c.in-Err.ensures.memory c.in-Err.ensures.store
    c.in-Err.ensures.closed c.in-Err.ensures.still c.in-Err.ensures.fault c.closing.ensures.bytes)
