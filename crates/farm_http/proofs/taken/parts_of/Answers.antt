-- Where the parts of the head are was found when it was taken.
use Rattle.std.proofs.Common.{◌≡◌, rules, take, drop, map}
use Rattle.std.proofs.Props.{props}
use Rattle.std.proofs.Math.Logic.{∥∥₁_elim}
use Rattle.httparse.specs.Spans.{span_bytes, header_bytes}
use Rattle.farm_http.specs.Fields.{fields_of}
use Rattle.farm_http.proofs.Whole.{front_is_head}
use Rattle.farm_http.proofs.taken.parts_of.Goals as goal

pub invariant_of-result : goal.invariant_of-result
invariant_of-result c = ∥∥₁_elim c.args.taken.now.placed (hlevel props) (λ is. search (rules, is.within))

pub returns : goal.returns
returns c request (h, is, e) =
    let first : c.split_at.result.0.now ≡ take c.args.taken.now.head c.args.taken.now.bytes.items = search rules in
    let last : c.split_at.result.1.now ≡ drop c.args.taken.now.head c.args.taken.now.bytes.items = search rules in
    let front = take c.args.taken.now.head c.args.taken.now.bytes.items in
    let t = c.args.taken.now in
    let parts : (span_bytes front t.spans.method ≡ h.method) × (span_bytes front t.spans.path ≡ h.target) × (map (header_bytes front) (take t.spans.headers t.headers) ≡ fields_of h) =
    ∥∥₁_elim t.placed (hlevel props) (λ placed. let at = placed.parts h (front_is_head t.bytes.items t.head h is) in (at.method, at.path, at.fields)) in
    search (rules, first, last, parts, e)
