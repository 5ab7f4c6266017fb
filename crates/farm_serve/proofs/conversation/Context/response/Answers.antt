-- What was received and what is due to it, together.
use Rattle.std.proofs.Common.{refl, Ok, inl, inr}
use Rattle.farm_serve.proofs.Names.{AskFault}
use Rattle.farm_serve.proofs.AnswerLemmas.{bad_request_is_response}
use Rattle.farm_serve.proofs.ReceivedLemmas.{receives_bad_request, receives_meant, receives_nothing, receives_refused}
use Rattle.farm_serve.proofs.conversation.Context.response.Goals as goal

pub returns-in-Ok-ask_of-clause-response : goal.returns-in-Ok-ask_of-clause-response
returns-in-Ok-ask_of-clause-response g c =
    inl (record {
      what = Ok c.in-Ok-ask_of.ask;
      receives = receives_meant _ _ _ c.in-Ok.taken (Ok c.in-Ok-ask_of.ask) c.in-Ok.ensures.known c.in-Ok-ask_of.ensures;
      response = c.response_to.ensures.response;
    })

pub returns-clause-response : goal.returns-clause-response
returns-clause-response g c =
    bad_request_is_response g.S.Store c.args.keeper.now _ _ c.args.now c.in-Err.fault _ _
    (receives_bad_request _ _ c.args.now c.in-Ok.taken c.in-Err.fault c.in-Ok.ensures.known c.in-Err.ensures) c.denial-in-Err.ensures

pub returns-in-Err-NoMemory-clause-response : goal.returns-in-Err-NoMemory-clause-response
returns-in-Err-NoMemory-clause-response g c =
    inr (record {
      fault = c.no_memory.ensures.end;
      receives = receives_nothing _ _ (rw c.in-Err-NoMemory.field-0-is at c.in-Err-NoMemory.ensures.known);
      encodes = c.no_memory.ensures.bytes;
      unchanged = refl;
    })

pub returns-in-Err-Refused-clause-response : goal.returns-in-Err-Refused-clause-response
returns-in-Err-Refused-clause-response g c =
    bad_request_is_response g.S.Store c.args.keeper.now _ _ c.args.now (AskFault.Refused c.in-Err-Refused.refusal) _ _
    (receives_refused _ _ c.args.now c.in-Err-Refused.refusal (rw c.in-Err-Refused.field-0-is at c.in-Err-Refused.ensures.known)) c.denial.ensures

pub returns-in-Err-Read-clause-unread : goal.returns-in-Err-Read-clause-unread
returns-in-Err-Read-clause-unread g c = (refl, rw c.in-Err-Read.field-0-is at c.in-Err-Read.ensures.turns.1, refl)
