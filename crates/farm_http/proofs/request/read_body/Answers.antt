-- A read adds to the bytes before it.
use Rattle.std.proofs.Common.{arith, rules}
use Rattle.std.proofs.lemmas.Result.{err_from_is_err_and}
use Rattle.farm_http.proofs.SliceReads.{read_part}
use Rattle.farm_http.proofs.TurnLemmas.{leaves_both, spends_behind}
use Rattle.farm_http.proofs.request.read_body.Goals as goal

pub loop-at-preserved : goal.loop-at-preserved
loop-at-preserved g c = record {
  within = search rules;
  turns = leaves_both _ _ _ _ _ _ c.loop-at.invariant.turns c.in_ok-count.ensures.turns;
  taken = read_part _ _ _ c.loop-at.body c.read_some.new.buf c.loop-at.at _ c.in_ok-count.count (omega arith) c.loop-at.invariant.taken c.in_ok-count.ensures.ok c.in_ok-count.ensures.within;
  sure = λ never. omega (arith, c.loop-at.invariant.sure never, c.read_some.ensures.once never);
}

pub returns-in_err-count-clause-turns : goal.returns-in_err-count-clause-turns
returns-in_err-count-clause-turns g c =
    let p = err_from_is_err_and c.from_residual.result c.from_residual.ensures.1 in
    rw (p.1, p.2) (spends_behind _ _ _ _ _ _ c.in_err-count.field-0.0 c.loop-at.invariant.turns c.in_err-count.ensures.turns)

pub returns-then-count-eq0-clause-turns : goal.returns-then-count-eq0-clause-turns
returns-then-count-eq0-clause-turns g c = leaves_both _ _ _ _ _ _ c.loop-at.invariant.turns c.in_ok-count.ensures.turns
