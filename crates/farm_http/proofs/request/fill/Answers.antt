-- The head and the body are joined, and so are their faults.
use Rattle.std.proofs.Common.{refl, ◌≡◌, ◌+◌, ◌-◌, length, take, drop, arith, rules, ◌++◌, ap, sym, subst, ◌∙◌, Ok}
use Rattle.std.proofs.lemmas.List.{length-take, length-drop}
use Rattle.std.proofs.KnownBytes.{Consumes-trans}
use Rattle.std.proofs.lemmas.Result.{err_from_is_err_and}
use Rattle.std.specs.Io.KnownBytes.{IsAtEnd}
use Rattle.farm_http.specs.Fields.{body_length}
use Rattle.farm_http.specs.Heads.{IsHead, AreSpansOf}
use Rattle.farm_http.specs.Requests.{IsRequestOf}
use Rattle.farm_http.proofs.TurnLemmas.{leaves_both, spends_behind}
use Rattle.farm_http.proofs.Whole.{request_of, front_kept, front_same, head_fails, written, body_fails}
use Rattle.farm_http.proofs.request.fill.Goals as goal

pub returns-in_err-read_body-clause-fault : goal.returns-in_err-read_body-clause-fault
returns-in_err-read_body-clause-fault g c =
    let p = err_from_is_err_and c.from_residual-in_err-read_body.result c.from_residual-in_err-read_body.ensures.1 in
    let h = c.in_ok-spans.ensures.head in
    let f = c.in_err-read_body.ensures.fault in
    let head = c.len-head.result in
    let body = c.in_ok-body.body in
    let old = c.read_head.new.bytes.items in
    let s = c.deref_mut.result.now in
    let declared : Ok body ≡ body_length h.0 = c.in_ok-body.ensures.length h.0 (subst (λ l. IsHead l h.0) (sym c.as_slice.ensures.value) h.1) in
    let grown : length s ≡ head + body = search rules in
    let size : length (take (length s - head) (drop head s)) ≡ body = simp (length-take, length-drop) (omega (arith, grown)) in
    rw (p.1, p.2) (
      old ++ f.0,
      Consumes-trans _ _ _ old f.0 c.in_ok-spans.ensures.bytes f.1,
      body_fails _ f.0 (IsAtEnd (g.R.Read.remaining c.read_body.new.reader)) c.in_err-read_body.field-0.0 h.0 body h.1 declared (rw size at f.2),
    )

-- the head and the body are a request
abbrev made : goal.returns-clause-request
made g c =
    let h = c.in_ok-spans.ensures.head in
    let head = c.len-head.result in
    let body = c.in_ok-body.body in
    let old = c.read_head.new.bytes.items in
    let s = c.deref_mut.result.now in
    let b = c.read_body.new.body in
    let declared : Ok body ≡ body_length h.0 = c.in_ok-body.ensures.length h.0 (subst (λ l. IsHead l h.0) (sym c.as_slice.ensures.value) h.1) in
    let grown : length s ≡ head + body = search rules in
    let size : length old ≡ head = search rules in
    let front : take head s ≡ old = subst (λ n. take n s ≡ old) size (ap (take (length old)) (c.deref_mut.ensures.value ∙ c.in-Ok.ensures.items) ∙ front_kept old _ (head + body) (omega (arith, size))) in
    let is : IsHead (take head s) h.0 = subst (λ l. IsHead l h.0) (sym front) h.1 in
    let long : length b ≡ body = search rules in
    let whole = request_of s b head body (length s - head) h.0 (omega (arith, grown)) long is declared in
    (h.0, subst (λ l. IsRequestOf l head h.0) (written (take head s) s b _ _ head body c.resize.new.self.len refl (omega (arith, grown)) long c.in-Ok.ensures.len) whole)

pub returns-clause-request : goal.returns-clause-request
returns-clause-request g c = made g c

pub returns-clause-spans : goal.returns-clause-spans
returns-clause-spans g c =
    let whole = made g c in
    subst (λ l. AreSpansOf l c.read_head.new.headers c.in_ok-spans.spans) (front_same _ c.read_head.new.bytes.items _ whole.0 c.in_ok-spans.ensures.head.1 whole.1) c.in_ok-spans.ensures.spans

pub returns-in_err-spans-clause-fault : goal.returns-in_err-spans-clause-fault
returns-in_err-spans-clause-fault g c =
    let p = err_from_is_err_and c.from_residual.result c.from_residual.ensures.1 in
    let f = c.in_err-spans.ensures.fault in
    rw (p.1, p.2) (f.0, f.1, head_fails f.0 (IsAtEnd (g.R.Read.remaining c.read_head.new.reader)) c.in_err-spans.field-0.0 f.2)

-- ---- the turns that the head left, and the body

pub returns-in_err-spans-clause-turns : goal.returns-in_err-spans-clause-turns
returns-in_err-spans-clause-turns g c =
    let p = err_from_is_err_and c.from_residual.result c.from_residual.ensures.1 in
    (c.read_head.new.left, rw (p.1, p.2) c.in_err-spans.ensures.turns)

pub returns-in_err-body-clause-turns : goal.returns-in_err-body-clause-turns
returns-in_err-body-clause-turns g c =
    let p = err_from_is_err_and c.from_residual-in_err-body.result c.from_residual-in_err-body.ensures.1 in
    (c.read_head.new.left, rw (p.1, p.2) c.in_ok-spans.ensures.turns)

pub returns-in_default-clause-turns : goal.returns-in_default-clause-turns
returns-in_default-clause-turns g c = (c.read_head.new.left, c.in_ok-spans.ensures.turns)

pub returns-in_err-read_body-clause-turns : goal.returns-in_err-read_body-clause-turns
returns-in_err-read_body-clause-turns g c =
    let p = err_from_is_err_and c.from_residual-in_err-read_body.result c.from_residual-in_err-read_body.ensures.1 in
    (c.read_body.new.left, rw (p.1, p.2) (spends_behind _ _ _ _ _ _ c.in_err-read_body.field-0.0 c.in_ok-spans.ensures.turns c.in_err-read_body.ensures.turns))

pub returns-clause-turns : goal.returns-clause-turns
returns-clause-turns g c = (c.read_body.new.left, leaves_both _ _ _ _ _ _ c.in_ok-spans.ensures.turns c.in_ok-read_body.ensures.turns)
