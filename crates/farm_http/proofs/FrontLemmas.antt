-- What is known of the first bytes is known of all.
use Rattle.std.proofs.Common.{◌≡◌, ℕ, ◌+◌, ◌-◌, ◌<◌, ◌≤◌, List, ◌++◌, length, take, drop, refl, sym, ap, subst, ◌∙◌, append_assoc, arith, inl, inr}
use Rattle.std.proofs.lemmas.List.{length-take-le, get_or-take, take-append-drop}
use Rattle.std.proofs.Math.Seq.{take-take}
use Rattle.farm_types.specs.Names.{longest_head, too_large}
use Rattle.farm_http.specs.Heads.{IsHead, IsOpen, IsOpenBelow}
use Rattle.farm_http.specs.Fronts.{BeginsRequest, AreRefused}

-- fewer lines are open where more are
pub open_fewer : (bytes : List ℕ) (n m : ℕ) → n ≤ m → IsOpenBelow m bytes → IsOpenBelow n bytes
open_fewer bytes n m fewer o i below at = o i (omega (arith, fewer, below)) at

-- the first lines of a front
pub open_in_front : (bytes : List ℕ) (n m : ℕ) → n ≤ m → IsOpenBelow n bytes → IsOpenBelow n (take m bytes)
open_in_front bytes n m fewer o i below at =
    let within : i < m = omega (arith, fewer, below) in
    subst IsOpen (sym (take-take (i + 1) m bytes (omega (arith, within)))) (o i below (sym (get_or-take m bytes i 0 within) ∙ at))

-- and those of a front that are open
pub open_of_front : (bytes : List ℕ) (n m : ℕ) → n ≤ m → IsOpenBelow n (take m bytes) → IsOpenBelow n bytes
open_of_front bytes n m fewer o i below at =
    let within : i < m = omega (arith, fewer, below) in
    subst IsOpen (take-take (i + 1) m bytes (omega (arith, within))) (o i below (get_or-take m bytes i 0 within ∙ at))

-- before the last byte of a front, where the lines before it are open
pub before_last : (bytes : List ℕ) (n : ℕ) → n < length bytes → IsOpenBelow n bytes → IsOpenBelow (length (take (n + 1) bytes) - 1) (take (n + 1) bytes)
before_last bytes n short o =
    let long : length (take (n + 1) bytes) ≡ n + 1 = length-take-le (n + 1) bytes (omega (arith, short)) in
    open_fewer (take (n + 1) bytes) (length (take (n + 1) bytes) - 1) n (omega (arith, long)) (open_in_front bytes n (n + 1) (omega arith) o)

-- and with it, where all of a front is open
pub with_last : (bytes : List ℕ) (n : ℕ) → n < length bytes → IsOpenBelow (length (take (n + 1) bytes)) (take (n + 1) bytes) → IsOpenBelow (n + 1) bytes
with_last bytes n short o =
    let long : length (take (n + 1) bytes) ≡ n + 1 = length-take-le (n + 1) bytes (omega (arith, short)) in
    open_of_front bytes (n + 1) (n + 1) (omega arith) (open_fewer (take (n + 1) bytes) (n + 1) (length (take (n + 1) bytes)) (omega (arith, long)) o)

pub begins_more : (bytes : List ℕ) (n len : ℕ) → n ≤ length bytes → BeginsRequest (take n bytes) len → BeginsRequest bytes len
begins_more bytes n len within it =
    let long : length (take n bytes) ≡ n = length-take-le n bytes within in
    let fits : it.size ≤ n = omega (arith, long, it.within) in
    record {
      head = it.head;
      size = it.size;
      body = it.body;
      within = omega (arith, fits, within);
      reads = subst (λ l. IsHead l it.head) (take-take it.size n bytes fits) it.reads;
      declared = it.declared;
      whole = it.whole;
    }

pub refused_more : (bytes : List ℕ) (n : ℕ) → AreRefused (take n bytes) → AreRefused bytes
refused_more bytes n it = record {
  used = it.used;
  more = it.more ++ drop n bytes;
  code = it.code;
  parts = sym (take-append-drop n bytes) ∙ ap (λ l. l ++ drop n bytes) it.parts ∙ append_assoc it.used it.more (drop n bytes);
  refused = it.refused;
}

-- as many bytes as a head may have, without one
pub too_long : (bytes : List ℕ) → longest_head ≤ length bytes → IsOpenBelow longest_head bytes → AreRefused bytes
too_long bytes long o = record {
  used = take longest_head bytes;
  more = drop longest_head bytes;
  code = too_large;
  parts = sym (take-append-drop longest_head bytes);
  refused = inl (inr (inr (record { refused = refl; long = length-take-le longest_head bytes long; open_lines = open_in_front bytes longest_head longest_head (omega arith) o })));
}
