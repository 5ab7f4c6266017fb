-- Where a head stands at the front of the input, nothing is refused for want of a head.
use Rattle.std.proofs.Common.{◌≡◌, ℕ, ◌+◌, ◌<◌, ◌≤◌, List, [], ◌∷◌, ◌++◌, length, get_or, take, sym, ap, ◌∙◌, append-nil, arith, length-append, inl, inr}
use Rattle.std.proofs.lemmas.List.{take-append-le, get_or-take}
use Rattle.std.proofs.Math.Seq.{get_or-append_seam, take-append_seam}
use Rattle.httparse.specs.Grammar.{RequestHead, ReadsRequest, print_request}
use Rattle.farm_types.specs.Names.{longest_head, most_fields}
use Rattle.farm_http.specs.Heads.{IsOpenBelow, HasNoHead}
use Rattle.farm_http.proofs.HeadLemmas.{head_ends_line}

-- the last line of a head that lies in the bytes is not open
never_open : (used more rest : List ℕ) (h : RequestHead) (n : ℕ) → ReadsRequest (used ++ more) h rest → length (print_request h) ≤ length used → length (print_request h) ≤ n → IsOpenBelow n used → ⊥
never_open used more rest h n reads within below o =
    let p = print_request h in
    let end = head_ends_line h in
    let front = end.0 in
    let size : length p ≡ length front + 1 = ap length end.1 ∙ length-append front (10 ∷ []) in
    let cut : take (length front + 1) used ≡ p =
    ap (λ k. take k used) (sym size) ∙ sym (take-append-le (length p) used more within) ∙ ap (take (length p)) reads.1 ∙ take-append_seam p rest in
    let last : get_or p (length front) 0 ≡ 10 = ap (λ l. get_or l (length front) 0) end.1 ∙ get_or-append_seam front 10 [] 0 in
    let at : get_or used (length front) 0 ≡ 10 = sym (get_or-take (length front + 1) used (length front) 0 (omega arith)) ∙ ap (λ l. get_or l (length front) 0) cut ∙ last in
    (o (length front) (omega (arith, size)) at).none h [] (reads.0, cut ∙ sym (append-nil p))

pub head_is_found : (used more rest : List ℕ) (h : RequestHead) (code : ℕ) → ReadsRequest (used ++ more) h rest → length h.fields ≤ most_fields → length (print_request h) ≤ longest_head
    → HasNoHead used (used ≡ used ++ more) code → ⊥
head_is_found used more rest h code reads few short (inl early) =
    let long : length used + length more ≡ length (print_request h) + length rest = sym (length-append used more) ∙ ap length reads.1 ∙ length-append (print_request h) rest in
    let none : length used ≡ length used + length more = ap length early.end ∙ length-append used more in
    let whole : length (print_request h) ≤ length used = omega (arith, long, none) in
    never_open used more rest h (length used) reads whole whole early.open_lines
head_is_found used more rest h code reads few short (inr (inl hopeless)) =
    let over : 64 < length h.fields = hopeless.overflows more h rest reads in
    absurd (omega (arith, over, few))
head_is_found used more rest h code reads few short (inr (inr long)) =
    never_open used more rest h longest_head reads (omega (arith, long.long, short)) short long.open_lines
