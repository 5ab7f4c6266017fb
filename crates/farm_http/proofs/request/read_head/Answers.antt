-- Bytes that don't come, a line that no head has, a line that ends a head, and one that does not.
use Rattle.std.proofs.Common.{length, ◌<◌, arith, subst, ◌∙◌, inl, inr}
use Rattle.std.proofs.KnownBytes.{Consumes-kept}
use Rattle.std.proofs.lemmas.Result.{err_from_is_err_and}
use Rattle.std.specs.Io.KnownBytes.{IsAtEnd}
use Rattle.farm_types.specs.Names.{longest_head}
use Rattle.farm_http.specs.Heads.{IsOpenBelow}
use Rattle.farm_http.proofs.HeadLemmas.{byte_fails, open_before, read_more}
use Rattle.farm_http.proofs.TurnLemmas.{leaves_both, spends_behind}
use Rattle.farm_http.proofs.request.read_head.Goals as goal

pub spans_of-requires-clause-open_lines : goal.spans_of-requires-clause-open_lines
spans_of-requires-clause-open_lines g c =
    let run = c.in_ok-read_run.ensures.run in
    open_before c.loop-reader.bytes.items c.as_slice.result.now run.0 (c.as_slice.ensures.value ∙ run.1) run.2 c.loop-reader.invariant.open_lines

pub returns-in_err-read_run-clause-fault : goal.returns-in_err-read_run-clause-fault
returns-in_err-read_run-clause-fault g c =
    let p = err_from_is_err_and c.from_residual.result c.from_residual.ensures.1 in
    let old = c.loop-reader.bytes.items in
    let short : length old < longest_head = omega arith in
    rw (p.1, p.2) (
      old,
      Consumes-kept _ _ _ old c.loop-reader.invariant.taken c.in_err-read_run.ensures.kept,
      byte_fails old (IsAtEnd (g.R.Read.remaining c.read_run.new.reader)) c.in_err-read_run.field-0.0 short c.loop-reader.invariant.open_lines c.in_err-read_run.ensures.fault,
    )

pub returns-in_err-spans-clause-fault : goal.returns-in_err-spans-clause-fault
returns-in_err-spans-clause-fault g c =
    let p = err_from_is_err_and c.from_residual-in_err-spans.result c.from_residual-in_err-spans.ensures.1 in
    let old = c.loop-reader.bytes.items in
    let all = c.as_slice.result.now in
    let run = c.in_ok-read_run.ensures.run in
    rw (p.1, p.2) (
      all,
      read_more _ _ _ old all run.0 (c.as_slice.ensures.value ∙ run.1) c.loop-reader.invariant.taken run.3,
      inr (inl c.in_err-spans.ensures.refused),
    )

pub returns-in-Some-clause-bytes : goal.returns-in-Some-clause-bytes
returns-in-Some-clause-bytes g c =
    let run = c.in_ok-read_run.ensures.run in
    read_more _ _ _ c.loop-reader.bytes.items c.read_run.new.bytes.items run.0 run.1 c.loop-reader.invariant.taken run.3

pub loop-reader-preserved : goal.loop-reader-preserved
loop-reader-preserved g c =
    let run = c.in_ok-read_run.ensures.run in
    let lines : IsOpenBelow (length c.as_slice.result.now) c.as_slice.result.now = rw c.in_default.is at c.in_ok-spans.ensures.found in
    record {
      short = c.in_ok-read_run.ensures.within;
      capacity = omega arith;
      turns = leaves_both _ _ _ _ _ _ c.loop-reader.invariant.turns c.in_ok-read_run.ensures.turns;
      room = omega arith;
      taken = read_more _ _ _ c.loop-reader.bytes.items c.read_run.new.bytes.items run.0 run.1 c.loop-reader.invariant.taken run.3;
      open_lines = subst (λ l. IsOpenBelow (length l) l) c.as_slice.ensures.value lines;
      sure = λ never. omega (arith, c.in_ok-read_run.ensures.some, c.loop-reader.invariant.sure never, c.read_run.ensures.once never);
    }

pub returns-in_err-read_run-clause-turns : goal.returns-in_err-read_run-clause-turns
returns-in_err-read_run-clause-turns g c =
    let p = err_from_is_err_and c.from_residual.result c.from_residual.ensures.1 in
    rw (p.1, p.2) (spends_behind _ _ _ _ _ _ c.in_err-read_run.field-0.0 c.loop-reader.invariant.turns c.in_err-read_run.ensures.turns)

pub returns-in_err-spans-clause-turns : goal.returns-in_err-spans-clause-turns
returns-in_err-spans-clause-turns g c =
    let p = err_from_is_err_and c.from_residual-in_err-spans.result c.from_residual-in_err-spans.ensures.1 in
    rw (p.1, p.2) (leaves_both _ _ _ _ _ _ c.loop-reader.invariant.turns c.in_ok-read_run.ensures.turns)

pub returns-in-Some-clause-turns : goal.returns-in-Some-clause-turns
returns-in-Some-clause-turns g c = leaves_both _ _ _ _ _ _ c.loop-reader.invariant.turns c.in_ok-read_run.ensures.turns
