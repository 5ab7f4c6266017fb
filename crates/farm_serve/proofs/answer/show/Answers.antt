-- Each view's answer, with the rows that it borrows.
use Rattle.std.proofs.Common.{refl, sym, ◌∙◌}
use Rattle.farm_types.specs.Names.{no_job}
use Rattle.farm_serve.proofs.Names.{Out}
use Rattle.farm_serve.specs.Names.{out_of_refusal}
use Rattle.farm_serve.proofs.AnswerLemmas.{encoded_one, encoded_no_memory}
use Rattle.farm_serve.proofs.answer.show.Goals as goal

pub returns-in-Types : goal.returns-in-Types
returns-in-Types c = encoded_one _ (Out.Types c.types.result) _ _ (rw c.in-Types.is c.types.ensures) c.of.ensures

pub returns-in-Boards : goal.returns-in-Boards
returns-in-Boards c = encoded_one _ (Out.Boards c.boards.result) _ _ (rw c.in-Boards.is c.boards.ensures) c.of-in-Boards.ensures

pub returns-in-Status : goal.returns-in-Status
returns-in-Status c = encoded_one _ (Out.Status c.status.result) _ _ (rw c.in-Status.is c.status.ensures) c.of-in-Status.ensures

pub returns-in-Reservations : goal.returns-in-Reservations
returns-in-Reservations c = encoded_one _ (Out.Reservations c.reservations.result) _ _ (rw c.in-Reservations.is c.reservations.ensures) c.of-in-Reservations.ensures

pub returns-in-Some : goal.returns-in-Some
returns-in-Some c = encoded_one _ (Out.Job c.in-Some.row) _ _ (rw c.in-Job.is (sym (c.in-Some.ensures c.requires))) c.of-in-Some.ensures

pub returns-in-None : goal.returns-in-None
returns-in-None c = encoded_one _ (out_of_refusal no_job) _ _ (rw c.in-Job.is (sym (c.in-None.ensures c.requires), refl)) c.of-in-None.ensures

pub returns-in-Ok : goal.returns-in-Ok
returns-in-Ok c = encoded_one _ (Out.Queue c.as_slice.result) _ _ (rw c.in-Queue.is (c.as_slice.ensures.value ∙ c.in-Ok.ensures c.requires)) c.of-in-Ok.ensures

pub returns-in-Err : goal.returns-in-Err
returns-in-Err c = encoded_no_memory _ _ _ c.no_memory.ensures.bytes c.no_memory.ensures.end
