-- A line that ends a head, one that does not, and a byte of a line.
use Rattle.std.proofs.Common.{ℕ, refl, subst, arith}
use Rattle.httparse.specs.Spans.{RequestOverflows}
use Rattle.farm_http.proofs.HeadLemmas.{head_of, open_more, ends_line}
use Rattle.farm_http.proofs.request.spans_of.Goals as goal

pub returns-then-bytes-ne10-clause-found : goal.returns-then-bytes-ne10-clause-found
returns-then-bytes-ne10-clause-found c =
    open_more c.args.bytes.now c.requires.some c.requires.open_lines (λ line. absurd (c.if-bytes-ne10.true line))

pub returns-in-Ok-Complete-clause-found : goal.returns-in-Ok-Complete-clause-found
returns-in-Ok-Complete-clause-found c =
    let found = rw c.in-Ok-Complete.field-0-is at c.in-Ok-Complete.ensures.complete in
    head_of c.args.bytes.now c.parse_request.new.headers _ found (omega arith) c.requires.short c.requires.open_lines

pub returns-in-Ok-Partial-clause-found : goal.returns-in-Ok-Partial-clause-found
returns-in-Ok-Partial-clause-found c =
    let none = rw c.in-Ok-Partial.field-0-is at c.in-Ok-Partial.ensures.partial in
    let more = rw c.in-Ok-Partial.field-0-is at c.in-Ok-Partial.ensures.unfinished in
    open_more c.args.bytes.now c.requires.some c.requires.open_lines (λ _. record { none = none; more = more })

pub returns-in-Err-clause-refused : goal.returns-in-Err-clause-refused
returns-in-Err-clause-refused c = record {
  refused = refl;
  short = c.requires.short;
  line = ends_line c.args.bytes.now c.requires.some c.if-bytes-ne10.false;
  overflows = subst (λ (n : ℕ). RequestOverflows n c.args.bytes.now) c.requires.fields c.in-Err.ensures.no_room;
  open_lines = c.requires.open_lines;
}
