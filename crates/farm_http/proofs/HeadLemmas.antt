-- Heads end in a line feed, so the first prefix that is one ends with its last line.
use Rattle.std.proofs.Common.{◌≡◌, ℕ, Bool, true, false, ltb, ltb-true, ltb-false, ◌+◌, ◌-◌, ◌<◌, ◌≤◌, min, List, [], ◌∷◌, ◌++◌, length, get_or, take, drop}
use Rattle.std.proofs.Common.{refl, sym, ap, subst, ◌∙◌, append_assoc, append-nil, arith, suc, length-append, below_more, inl}
use Rattle.std.proofs.lemmas.List.{take-append-le, take_more, length-take, length-map, get_or-take}
use Rattle.std.proofs.Math.ListN.{get_or-append}
use Rattle.std.proofs.Math.Seq.{get_or-append_seam, get_or-append_right, take-append_seam, take-length}
use Rattle.httparse.specs.Grammar.{RequestHead, ReadsRequest, LineEnd, crlf, lf, print_end, print_request}
use Rattle.httparse.specs.Spans.{IsRequestOf, header_bytes, name_and_value}
use Rattle.httparse.specs.declared.spans.HeaderSpan.{HeaderSpan}
use Rattle.httparse.specs.declared.spans.RequestSpans.{RequestSpans}
use Rattle.farm_types.specs.Names.{longest_head, most_fields}
use Rattle.farm_http.specs.Heads.{IsHead, IsOpen, IsOpenBelow}
use Rattle.farm_http.specs.Faults.{BodyFails, HeadFails}
use Rattle.farm_http.specs.declared.fault.WireFault.{WireFault}
use Rattle.farm_http.specs.declared.fault.WireFault.TheVariants.{NoMemory, Read, Write, Refused}
use Rattle.std.specs.Prelude.{Option}
use Rattle.std.specs.Io.{StopsAt}
use Rattle.std.specs.Io.KnownBytes.{Consumes}
use Rattle.std.proofs.KnownBytes.{Consumes-trans}

-- the bytes end in a line feed
abbrev pub EndsLine : List ℕ → Type 0
EndsLine bytes = (front : List ℕ) × (bytes ≡ front ++ 10 ∷ [])

pub after_ends_line : (a b : List ℕ) → EndsLine b → EndsLine (a ++ b)
after_ends_line a b e = (a ++ e.0, ap (λ l. a ++ l) e.1 ∙ sym (append_assoc a e.0 (10 ∷ [])))

pub end_ends_line : (e : LineEnd) → EndsLine (print_end e)
end_ends_line crlf = (13 ∷ [], refl)
end_ends_line lf = ([], refl)

pub head_ends_line : (h : RequestHead) → EndsLine (print_request h)
unfolding print_request
head_ends_line h = after_ends_line _ _ (after_ends_line _ _ (end_ends_line h.last))

-- no open line lies before the end of a head
pub head_exact : (buf : List ℕ) (h : RequestHead) (rest : List ℕ) → ReadsRequest buf h rest → IsOpenBelow (length buf - 1) buf → rest ≡ []
head_exact buf h [] r o = refl
head_exact buf h (x ∷ xs) r o =
    let end = head_ends_line h in
    let front = end.0 in
    let whole : buf ≡ front ++ 10 ∷ (x ∷ xs) = r.1 ∙ ap (λ l. l ++ x ∷ xs) end.1 ∙ append_assoc front (10 ∷ []) (x ∷ xs) in
    let long : length buf ≡ length front + suc (suc (length xs)) = ap length whole ∙ length-append front (10 ∷ (x ∷ xs)) in
    let below : length front < length buf - 1 = omega (arith, long) in
    let at : get_or buf (length front) 0 ≡ 10 = ap (λ l. get_or l (length front) 0) whole ∙ get_or-append_seam front 10 (x ∷ xs) 0 in
    let split : buf ≡ print_request h ++ x ∷ xs = r.1 in
    let size : length (print_request h) ≡ length front + 1 = ap length end.1 ∙ length-append front (10 ∷ []) in
    let cut : take (length front + 1) buf ≡ print_request h = ap (take (length front + 1)) split ∙ ap (λ n. take n (print_request h ++ x ∷ xs)) (sym size) ∙ take-append_seam (print_request h) (x ∷ xs) in
    absurd ((o (length front) below at).none h [] (r.0, cut ∙ sym (append-nil (print_request h))))

-- a parse that is complete has found a head that fits
pub head_of : (buf : List ℕ) (headers : List HeaderSpan) (r : RequestSpans) → IsRequestOf buf headers r → length headers ≡ most_fields → length buf ≤ longest_head
    → IsOpenBelow (length buf - 1) buf → (h : RequestHead) × IsHead buf h
head_of buf headers r found room short o =
    let h = found.0 in
    let at = found.1 in
    let e : drop r.len buf ≡ [] = head_exact buf h (drop r.len buf) at.reads o in
    let count : length (take r.headers headers) ≡ length h.fields = sym (length-map (take r.headers headers) (header_bytes buf)) ∙ ap length at.fields ∙ length-map h.fields name_and_value in
    let cut : length (take r.headers headers) ≡ min r.headers (length headers) = length-take r.headers headers in (
      h,
      record {
        reads = subst (ReadsRequest buf h) e at.reads;
        few = omega (arith, count, cut, room);
        short = short;
      },
    )

-- bytes behind them, of which none but the last is a line feed, leave the lines before those
open_appended : (bytes run : List ℕ) → StopsAt run 10 → IsOpenBelow (length bytes) bytes → IsOpenBelow (length bytes + length run - 1) (bytes ++ run)
open_appended bytes run stops o i below at = by (ltb i (length bytes)) refl
  where
    by : (b : Bool) → ltb i (length bytes) ≡ b → IsOpen (take (i + 1) (bytes ++ run))
    by true e =
        let within = ltb-true i (length bytes) e in
        subst IsOpen (sym (take-append-le (i + 1) bytes run (omega (arith, within)))) (o i within (sym (get_or-append bytes run 0 i within) ∙ at))
    by false e =
        let past = ltb-false i (length bytes) e in
        let before : i - length bytes < length run - 1 = omega (arith, past, below) in
        let there : get_or run (i - length bytes) 0 ≡ 10 = sym (get_or-append_right bytes run i 0 past) ∙ at in
        absurd (stops (i - length bytes) 0 (omega (arith, before, length-take (length run - 1) run)) (get_or-take (length run - 1) run (i - length bytes) 0 before ∙ there))

-- they are all its lines but the last
pub open_before : (bytes all run : List ℕ) → all ≡ bytes ++ run → StopsAt run 10 → IsOpenBelow (length bytes) bytes → IsOpenBelow (length all - 1) all
open_before bytes all run is stops o =
    subst (λ l. IsOpenBelow (length l - 1) l) (sym is) (subst (λ n. IsOpenBelow (n - 1) (bytes ++ run)) (sym (length-append bytes run)) (open_appended bytes run stops o))

-- one more line that is open, or one more byte of a line
pub open_more : (bytes : List ℕ) → 0 < length bytes → IsOpenBelow (length bytes - 1) bytes → (get_or bytes (length bytes - 1) 0 ≡ 10 → IsOpen bytes) → IsOpenBelow (length bytes) bytes
open_more bytes some o last =
    let long : length bytes - 1 + 1 ≡ length bytes = omega arith in
    let whole : take (length bytes - 1 + 1) bytes ≡ bytes = ap (λ n. take n bytes) long ∙ take-length bytes in
    subst (λ n. IsOpenBelow n bytes) long (below_more (λ i. get_or bytes i 0 ≡ 10 → IsOpen (take (i + 1) bytes)) (length bytes - 1) o (λ at. subst IsOpen (sym whole) (last at)))

-- bytes whose last is a line feed
pub ends_line : (bytes : List ℕ) → 0 < length bytes → get_or bytes (length bytes - 1) 0 ≡ 10 → EndsLine bytes
ends_line bytes some at =
    let n = length bytes - 1 in
    let long : length bytes ≡ length bytes - 1 + 1 = omega arith in
    let whole : bytes ≡ take (length bytes - 1 + 1) bytes = sym (take-length bytes) ∙ ap (λ k. take k bytes) long in
    (take n bytes, whole ∙ take_more bytes n 0 (omega arith) ∙ ap (λ b. take n bytes ++ b ∷ []) at)

-- bytes were read, and were put behind the others
pub read_more : (a b c : Option (List ℕ)) (old all run : List ℕ) → all ≡ old ++ run → Consumes a b old → Consumes b c run → Consumes a c all
read_more a b c old all run is before read = subst (Consumes a c) (sym is) (Consumes-trans a b c old run before read)

-- where no further byte came, no head did
pub byte_fails : (old : List ℕ) (AtEnd : Type 0) (e : WireFault) → length old < longest_head → IsOpenBelow (length old) old → BodyFails 1 [] AtEnd e → HeadFails old AtEnd e
byte_fails old AtEnd NoMemory short o f = f
byte_fails old AtEnd Read short o f = f
byte_fails old AtEnd Write short o f = f
byte_fails old AtEnd (Refused r) short o f = inl (record { refused = f.refused; end = f.end; short = short; open_lines = o })
