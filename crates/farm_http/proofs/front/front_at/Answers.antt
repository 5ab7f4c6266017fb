-- A line that ends a head, whose fields say how long the body is or are refused, and one that rules a head out.
use Rattle.std.proofs.Common.{ℕ, [], length, refl, sym, subst, append-nil, arith, inl, inr}
use Rattle.std.proofs.Math.Seq.{take-length}
use Rattle.httparse.specs.Spans.{RequestOverflows}
use Rattle.farm_types.specs.Names.{bad_request}
use Rattle.farm_http.specs.Heads.{IsHead}
use Rattle.farm_http.proofs.HeadLemmas.{head_of, open_more, ends_line}
use Rattle.farm_http.proofs.front.front_at.Goals as goal

pub returns-then-bytes-ne10-clause-front : goal.returns-then-bytes-ne10-clause-front
returns-then-bytes-ne10-clause-front c = λ o. open_more c.args.bytes.now c.requires.some o (λ line. absurd (c.if-bytes-ne10.true line))

pub returns-in-Ok-clause-front : goal.returns-in-Ok-clause-front
returns-in-Ok-clause-front c = λ o.
    let bytes = c.args.bytes.now in
    let found = rw c.in-Ok-Complete.field-0-is at c.in-Ok-Complete.ensures.complete in
    let h = head_of bytes c.parse_request.new.headers _ found (omega arith) c.requires.short o in
    record {
      head = h.0;
      size = length bytes;
      body = c.in-Ok.body;
      within = omega arith;
      reads = subst (λ l. IsHead l h.0) (sym (take-length bytes)) h.1;
      declared = sym (c.in-Ok.ensures.length h.0 h.1);
      whole = refl;
    }

pub returns-in-Ok-Partial-clause-front : goal.returns-in-Ok-Partial-clause-front
returns-in-Ok-Partial-clause-front c = λ o.
    let none = rw c.in-Ok-Partial.field-0-is at c.in-Ok-Partial.ensures.partial in
    let more = rw c.in-Ok-Partial.field-0-is at c.in-Ok-Partial.ensures.unfinished in
    open_more c.args.bytes.now c.requires.some o (λ _. record { none = none; more = more })

pub returns-in-Err-length_after-clause-front : goal.returns-in-Err-length_after-clause-front
returns-in-Err-length_after-clause-front c = λ o.
    let bytes = c.args.bytes.now in
    let found = rw c.in-Ok-Complete.field-0-is at c.in-Ok-Complete.ensures.complete in
    let h = head_of bytes c.parse_request.new.headers _ found (omega arith) c.requires.short o in
    record {
      used = bytes;
      more = [];
      code = c.in-Err-length_after.field-0.code;
      parts = sym (append-nil bytes);
      refused = inr (inl (record { head = h.0; reads = h.1; refused = sym (c.in-Err-length_after.ensures.length h.0 h.1) }));
    }

pub returns-in-Err-clause-front : goal.returns-in-Err-clause-front
returns-in-Err-clause-front c = λ o.
    let bytes = c.args.bytes.now in
    record {
      used = bytes;
      more = [];
      code = bad_request;
      parts = sym (append-nil bytes);
      refused = inl (inr (inl (record {
        refused = refl;
        short = c.requires.short;
        line = ends_line bytes c.requires.some c.if-bytes-ne10.false;
        overflows = subst (λ (n : ℕ). RequestOverflows n bytes) c.requires.fields c.in-Err.ensures.no_room;
        open_lines = o;
      })));
    }
