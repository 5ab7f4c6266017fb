-- A head and a body behind it.
use Rattle.std.proofs.Common.{◌≡◌, ℕ, ◌+◌, ◌≤◌, List, ◌++◌, length, take, drop, ap, sym, subst, ◌∙◌, append-nil, length-append, arith, Ok, inl, inr}
use Rattle.std.proofs.lemmas.List.{length-take-le, drop_at, take_all, take-append-le}
use Rattle.std.proofs.lemmas.Slice.{take-put_mid}
use Rattle.std.proofs.Math.Seq.{take-append_seam}
use borrow.Rule.Slice.PartMut.{put_mid}
use Rattle.httparse.specs.Grammar.{RequestHead, print_request}
use Rattle.farm_http.specs.Fields.{body_length}
use Rattle.farm_http.specs.Heads.{IsHead}
use Rattle.farm_http.specs.Requests.{IsRequestOf}
use Rattle.farm_http.specs.Faults.{BodyFails, HeadFails, Fails}
use Rattle.farm_http.specs.declared.fault.WireFault.{WireFault}
use Rattle.farm_http.specs.declared.fault.WireFault.TheVariants.{NoMemory, Read, Write, Refused}

-- a head is what it prints
pub head_text : (bytes : List ℕ) (h : RequestHead) → IsHead bytes h → bytes ≡ print_request h
head_text bytes h is = is.reads.1 ∙ append-nil (print_request h)

-- room that is made behind the head leaves it
pub front_kept : (head zeros : List ℕ) (n : ℕ) → length head ≤ n → take (length head) (take n head ++ zeros) ≡ head
front_kept head zeros n le = ap (λ l. take (length head) (l ++ zeros)) (take_all n head le) ∙ take-append_seam head zeros

-- a list of this length that is written over the front of another is what stands there then
pub written : (head s body behind rest : List ℕ) (h n m : ℕ) → head ≡ take h s → h ≤ length s → length body ≡ n → m ≡ h + n → take (h + n) (head ++ (body ++ behind)) ≡ take m ((head ++ (body ++ behind)) ++ rest)
written head s body behind rest h n m front within long same =
    let all = head ++ (body ++ behind) in
    let first : length head ≡ h = ap length front ∙ length-take-le h s within in
    let fits : h + n ≤ length all = omega (arith, first, long, length-append head (body ++ behind), length-append body behind) in
    sym (ap (λ k. take k (all ++ rest)) same ∙ take-append-le (h + n) all rest fits)

-- the body was put behind the head
pub joined : (bytes body : List ℕ) (head k j : ℕ) → head ≤ length bytes → length body ≡ k → take (head + k) (put_mid head j bytes body) ≡ take head bytes ++ body
joined bytes body head k j within long = take-put_mid head j bytes body (head + k) (ap (λ n. head + n) (sym long)) within

pub request_of : (bytes body : List ℕ) (head k j : ℕ) (h : RequestHead) → head ≤ length bytes → length body ≡ k → IsHead (take head bytes) h → Ok k ≡ body_length h
    → IsRequestOf (take (head + k) (put_mid head j bytes body)) head h
request_of bytes body head k j h within long is declared =
    let text = head_text (take head bytes) h is in
    let len : length (print_request h) ≡ head = ap length (sym text) ∙ length-take-le head bytes within in
    let all : take (head + k) (put_mid head j bytes body) ≡ print_request h ++ body = joined bytes body head k j within long ∙ ap (λ l. l ++ body) text in
    let rest : drop head (take (head + k) (put_mid head j bytes body)) ≡ body = ap (drop head) all ∙ drop_at (print_request h) body head len in
    record {
      front = subst (λ l. IsHead l h) text is;
      head_is = sym len;
      whole = all ∙ ap (λ l. print_request h ++ l) (sym rest);
      declared = sym declared ∙ ap (λ n. Ok n) (sym long ∙ ap length (sym rest));
    }

-- a body that fails makes its request fail
pub body_fails : (front used : List ℕ) (AtEnd : Type 0) (e : WireFault) (h : RequestHead) (k : ℕ) → IsHead front h → Ok k ≡ body_length h
    → BodyFails k used AtEnd e → Fails (front ++ used) AtEnd e
body_fails front used AtEnd NoMemory h k is declared f = absurd f
body_fails front used AtEnd Read h k is declared f = f
body_fails front used AtEnd Write h k is declared f = absurd f
body_fails front used AtEnd (Refused r) h k is declared f =
    let text = head_text front h is in
    inr (inr (record {
      head = h;
      body = used;
      len = k;
      reads = subst (λ l. IsHead l h) text is;
      whole = ap (λ l. l ++ used) text;
      declared = sym declared;
      short = f.short;
      end = f.end;
      refused = f.refused;
    }))

-- the front of a request is its head
pub front_is_head : (bytes : List ℕ) (head : ℕ) (h : RequestHead) → IsRequestOf bytes head h → IsHead (take head bytes) h
front_is_head bytes head h is =
    let cut : take head bytes ≡ print_request h = ap (λ n. take n bytes) is.head_is ∙ ap (take (length (print_request h))) is.whole ∙ take-append_seam (print_request h) (drop head bytes) in
    subst (λ l. IsHead l h) (sym cut) is.front

-- it is the head that the request was made of
pub front_same : (bytes front : List ℕ) (head : ℕ) (h : RequestHead) → IsHead front h → IsRequestOf bytes head h → front ≡ take head bytes
front_same bytes front head h is whole = head_text front h is ∙ sym (head_text (take head bytes) h (front_is_head bytes head h whole))

-- a head that fails makes its request fail
pub head_fails : (used : List ℕ) (AtEnd : Type 0) (e : WireFault) → HeadFails used AtEnd e → Fails used AtEnd e
head_fails used AtEnd NoMemory f = absurd f
head_fails used AtEnd Read f = f
head_fails used AtEnd Write f = f
head_fails used AtEnd (Refused r) f = inl f
