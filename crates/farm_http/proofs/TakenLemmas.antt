-- What a request at the front of the input makes of all that reading can give.
use Rattle.std.proofs.Common.{◌≡◌, ℕ, ◌+◌, List, [], ◌++◌, length, take, drop, sym, ap, subst, ◌∙◌, append_assoc, append-nil, arith, length-append, Ok, Err}
use Rattle.std.proofs.Common.{inl, inr}
use Rattle.std.specs.Prelude.{Result}
use Rattle.std.proofs.Math.Seq.{take-append_seam}
use Rattle.httparse.specs.Grammar.{RequestHead, ReadsRequest, print_request}
use Rattle.httparse.proofs.GrammarLemmas.{request_unique}
use Rattle.farm_http.specs.Fields.{body_length}
use Rattle.farm_http.specs.Heads.{IsHead, HasNoHead}
use Rattle.farm_http.specs.Requests.{IsRequestOf, IsRequest, IsRefused}
use Rattle.farm_http.specs.Faults.{TakesBytes, IsTaken}
use Rattle.farm_http.specs.declared.taken.Taken.{Taken}
use Rattle.farm_http.specs.declared.fault.WireFault.{WireFault}
use Rattle.farm_http.specs.declared.fault.WireFault.TheVariants.{NoMemory, Read, Write, Refused}
use Rattle.farm_http.proofs.Found.{head_is_found}

-- a head reads from each input that it begins
front_reads : (h : RequestHead) (input behind : List ℕ) → IsHead (print_request h) h → input ≡ print_request h ++ behind → ReadsRequest input h behind
front_reads h input behind is e = (is.reads.0, e)

-- a request's head reads from each input that the request begins
request_reads : (bytes rest : List ℕ) (head : ℕ) (h : RequestHead) → IsRequestOf bytes head h → ReadsRequest (bytes ++ rest) h (drop head bytes ++ rest)
request_reads bytes rest head h is =
    front_reads h (bytes ++ rest) (drop head bytes ++ rest) is.front (ap (λ l. l ++ rest) is.whole ∙ append_assoc (print_request h) (drop head bytes) rest)

one_ok : (a b : ℕ) (r : Result ℕ ℕ) → r ≡ Ok a → r ≡ Ok b → a ≡ b
one_ok a b r x y = cc

-- two bodies of one length at the front of one input are one
same_front : (a b c d : List ℕ) → a ++ c ≡ b ++ d → length a ≡ length b → a ≡ b
same_front a b c d e n = sym (take-append_seam a c) ∙ ap (take (length a)) e ∙ ap (λ k. take k (b ++ d)) n ∙ take-append_seam b d

-- two requests at the front of one input are one
pub one_request : (bytes rest used more : List ℕ) (head other : ℕ) → IsRequest bytes head → IsRequest used other → bytes ++ rest ≡ used ++ more → (used ≡ bytes) × (other ≡ head)
one_request bytes rest used more head other (h, is) (k, at) e =
    let first = request_reads bytes rest head h is in
    let second = subst (λ l. ReadsRequest l k (drop other used ++ more)) (sym e) (request_reads used more other k at) in
    let one : h ≡ k = (request_unique (bytes ++ rest) h k (drop head bytes ++ rest) (drop other used ++ more) first second).0 in
    let heads : other ≡ head = at.head_is ∙ ap (λ g. length (print_request g)) (sym one) ∙ sym is.head_is in
    let declared : length (drop other used) ≡ length (drop head bytes) = one_ok _ _ (body_length k) at.declared (ap body_length (sym one) ∙ is.declared) in
    let printed : length (print_request k) ≡ length (print_request h) = ap (λ g. length (print_request g)) (sym one) in
    let size : length used ≡ length bytes =
    ap length at.whole ∙ length-append (print_request k) (drop other used) ∙ omega (arith, declared, printed) ∙ sym (length-append (print_request h) (drop head bytes)) ∙ sym (ap length is.whole) in
    (same_front used bytes more rest (sym e) size, heads)

-- a head at the front of an input that begins with a request is the request's
one_head : (bytes rest used more : List ℕ) (head : ℕ) (h k : RequestHead) (behind : List ℕ) → IsRequestOf bytes head h → IsHead (print_request k) k → used ≡ print_request k ++ behind
    → bytes ++ rest ≡ used ++ more → h ≡ k
one_head bytes rest used more head h k behind is at whole e =
    let first = request_reads bytes rest head h is in
    let second = front_reads k (bytes ++ rest) (behind ++ more) at (e ∙ ap (λ l. l ++ more) whole ∙ append_assoc (print_request k) behind more) in
    (request_unique (bytes ++ rest) h k (drop head bytes ++ rest) (behind ++ more) first second).0

ok_is_no_err : (a b : ℕ) (r : Result ℕ ℕ) → r ≡ Ok a → r ≡ Err b → ⊥
ok_is_no_err a b r x y = cc

-- it is not refused
pub not_refused : (bytes rest used more : List ℕ) (head code : ℕ) → IsRequest bytes head → bytes ++ rest ≡ used ++ more → IsRefused used (used ≡ bytes ++ rest) code → ⊥
not_refused bytes rest used more head code (h, is) e (inl none) =
    let reads = subst (λ l. ReadsRequest l h (drop head bytes ++ rest)) e (request_reads bytes rest head h is) in
    head_is_found used more (drop head bytes ++ rest) h code reads is.front.few is.front.short (subst (λ l. HasNoHead used (used ≡ l) code) e none)
not_refused bytes rest used more head code (h, is) e (inr (inl fields)) =
    let k = fields.head in
    let text : used ≡ print_request k ++ [] = fields.reads.reads.1 in
    let at : IsHead (print_request k) k = subst (λ l. IsHead l k) (text ∙ append-nil (print_request k)) fields.reads in
    let one = one_head bytes rest used more head h k [] is at text e in
    ok_is_no_err _ code (body_length k) (ap body_length (sym one) ∙ is.declared) fields.refused
not_refused bytes rest used more head code (h, is) e (inr (inr cut)) =
    let k = cut.head in
    let one = one_head bytes rest used more head h k cut.body is cut.reads cut.whole e in
    let printed : length (print_request k) ≡ length (print_request h) = ap (λ g. length (print_request g)) (sym one) in
    let declared : cut.len ≡ length (drop head bytes) = one_ok _ _ (body_length k) cut.declared (ap body_length (sym one) ∙ is.declared) in
    let taken : length used ≡ length (print_request k) + length cut.body = ap length cut.whole ∙ length-append (print_request k) cut.body in
    let given : length used ≡ length bytes + length rest = ap length cut.end ∙ length-append bytes rest in
    let request : length bytes ≡ length (print_request h) + length (drop head bytes) = ap length is.whole ∙ length-append (print_request h) (drop head bytes) in
    absurd (omega (arith, printed, declared, taken, given, request, cut.short))

pub request_is_taken : (bytes rest used more : List ℕ) (head : ℕ) (r : Result Taken WireFault) → IsRequest bytes head → bytes ++ rest ≡ used ++ more
    → TakesBytes (bytes ++ rest) used r → IsTaken bytes head r
request_is_taken bytes rest used more head (Ok taken) request e (all, is) =
    let one = one_request bytes rest used more head taken.head request is e in
    (sym all ∙ one.0, one.1)
request_is_taken bytes rest used more head (Err NoMemory) request e gives = tt
request_is_taken bytes rest used more head (Err Read) request e gives = tt
request_is_taken bytes rest used more head (Err Write) request e gives = gives
request_is_taken bytes rest used more head (Err (Refused r)) request e gives = absurd (not_refused bytes rest used more head r.code request e gives)
