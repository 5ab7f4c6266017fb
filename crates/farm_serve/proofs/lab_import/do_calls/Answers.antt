-- Each accepted call is counted, and a refusal or a fault ends it.
use Rattle.std.proofs.Common.{◌≡◌, ◌≤◌, ◌<◌, ◌+◌, length, arith, sym, ◌∙◌, subst}
use Rattle.std.specs.Prelude.{Some, None}
use Rattle.farm_serve.proofs.Names.{DeskFault}
use Rattle.farm_serve.specs.Names.{EndsBy}
use Rattle.farm_serve.proofs.ImportLemmas.{counted_accepted, counted_kept, farm_after, faulted_at, stopped_at, whole_at}
use Rattle.farm_serve.proofs.lab_import.do_calls.Goals as goal
use Rattle.farm_serve.proofs.lab_import.do_calls.Goals.{in-Did, in-Kept}

pub returns-in-Refused-clause-does : goal.returns-in-Refused-clause-does
returns-in-Refused-clause-does g c =
    let was = c.loop-call.invariant in
    let low : c.loop-call.call-index < length c.args.calls.now = omega arith in
    let done = c.loop-call.end.accepted + c.loop-call.end.kept in
    let did = c.in-Ok.ensures in
    record {
      counted = was.counted;
      ends = subst (EndsBy g.S.Store c.args.keeper.now c.act.new.self c.args.calls.now done (Some (done + 1, c.in-Refused.refusal))) (sym was.faultless)
          (stopped_at g.S.Store c.args.keeper.now c.loop-call.keeper c.act.new.self c.args.calls.now c.loop-call.call-index done c.call-item.result c.in-Refused.refusal.code
          (record { low = low; here = c.call-item.is; before = was.farm; answer_is = rw c.in-Refused.is at did.answer })
          was.done was.opened was.keeps (rw c.in-Refused.is at did.rests));
    }

pub loop-call-preserved : goal.loop-call-preserved
loop-call-preserved g c =
    let was = c.loop-call.invariant in
    let low : c.loop-call.call-index < length c.args.calls.now = omega arith in
    let did = c.in-Ok.ensures in
    let F = c.args.keeper.now.farm.farm in
    elim c.match-answer.branch [
      | in-Did w ↦ rw w.end-is (record {
        clean = omega (arith, c.act.ensures.clean);
        opened = did.opened.1 ∙ sym did.opened.0 ∙ was.opened;
        farm = did.farm ∙ farm_after F c.loop-call.keeper.farm.farm c.args.calls.now c.loop-call.call-index c.call-item.result low c.call-item.is was.farm;
        done = omega (arith, was.done);
        counted = counted_accepted F c.loop-call.keeper.farm.farm c.args.calls.now c.loop-call.call-index c.call-item.result _ c.loop-call.end.accepted c.loop-call.end.kept
            (record { low = low; here = c.call-item.is; before = was.farm; answer_is = rw w.in-Did.is at did.answer }) was.done was.counted;
        goes_on = was.goes_on;
        faultless = was.faultless;
        still = λ shut. absurd (let e = sym did.opened.0 ∙ was.opened ∙ shut in cc);
        keeps = λ keeps. did.stands (was.keeps keeps);
      })
      | in-Kept w ↦ rw w.end-is (record {
        clean = omega (arith, c.act.ensures.clean);
        opened = did.opened.1 ∙ sym did.opened.0 ∙ was.opened;
        farm = did.farm ∙ farm_after F c.loop-call.keeper.farm.farm c.args.calls.now c.loop-call.call-index c.call-item.result low c.call-item.is was.farm;
        done = omega (arith, was.done);
        counted = counted_kept F c.loop-call.keeper.farm.farm c.args.calls.now c.loop-call.call-index c.call-item.result _ c.loop-call.end.accepted c.loop-call.end.kept
            (record { low = low; here = c.call-item.is; before = was.farm; answer_is = rw w.in-Kept.is at did.answer }) was.done was.counted;
        goes_on = was.goes_on;
        faultless = was.faultless;
        still = λ shut. absurd (let e = sym did.opened.0 ∙ was.opened ∙ shut in cc);
        keeps = λ keeps. did.stands (was.keeps keeps);
      })
    ]

pub returns-in-Err-clause-does : goal.returns-in-Err-clause-does
returns-in-Err-clause-does g c =
    let was = c.loop-call.invariant in
    let low : c.loop-call.call-index < length c.args.calls.now = omega arith in
    let done = c.loop-call.end.accepted + c.loop-call.end.kept in
    let did = c.in-Err.ensures in
    record {
      counted = was.counted;
      ends = subst (λ s. EndsBy g.S.Store c.args.keeper.now c.act.new.self c.args.calls.now done s (Some (DeskFault.Keep c.in-Err.fault))) (sym was.goes_on)
          (faulted_at g.S.Store c.args.keeper.now c.loop-call.keeper c.act.new.self c.args.calls.now c.loop-call.call-index done c.call-item.result c.in-Err.fault
          low c.call-item.is was.farm was.done was.opened was.keeps was.still did.memory did.store did.closed did.still did.fault);
    }

pub returns-clause-does : goal.returns-clause-does
returns-clause-does g c =
    let was = c.loop-call.invariant in
    let done = c.loop-call.end.accepted + c.loop-call.end.kept in
    let all : length c.args.calls.now ≤ c.loop-call.call-index = omega arith in
    record {
      counted = was.counted;
      ends = subst (λ s. EndsBy g.S.Store c.args.keeper.now c.loop-call.keeper c.args.calls.now done s c.loop-call.end.fault) (sym was.goes_on)
          (subst (EndsBy g.S.Store c.args.keeper.now c.loop-call.keeper c.args.calls.now done None) (sym was.faultless)
          (whole_at g.S.Store c.args.keeper.now c.loop-call.keeper c.args.calls.now c.loop-call.call-index done all was.done was.counted.within was.opened was.farm was.keeps));
    }
