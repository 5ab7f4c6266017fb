-- The head of a request: the first prefix that is one, or why there is none.
use Rattle.std.specs.Prelude.{◌≡◌, ℕ, ◌+◌, ◌-◌, ◌<◌, ◌≤◌, ◌⊎◌, Bool, true, false, List, [], ◌∷◌, ◌++◌, length, take, slice_index}
use Rattle.httparse.specs.Ascii.{line_feed}
use Rattle.httparse.specs.Grammar.{RequestHead, ReadsRequest, HasNoRequest, MayBecomeRequest}
use Rattle.httparse.specs.Spans.{IsRequestAt, IsRequestWithin, RequestOverflows}
use Rattle.httparse.specs.declared.spans.HeaderSpan.{HeaderSpan}
use Rattle.httparse.specs.declared.spans.RequestSpans.{RequestSpans}
use Rattle.farm_types.specs.Names.{bad_request, longest_head, most_fields, too_large}

-- the bytes are a head with no more fields and bytes than a head may have
pub record IsHead (bytes : List ℕ) (h : RequestHead) : Type 0 where
  pub reads : ReadsRequest bytes h []
  pub few : length h.fields ≤ most_fields
  pub short : length bytes ≤ longest_head

-- the prefix is no head, and more bytes can make it one
pub record IsOpen (front : List ℕ) : Type 0 where
  pub none : HasNoRequest front
  pub more : MayBecomeRequest front

-- the spans are those of the parts of each head that the bytes are, and lie in them
pub record AreSpansOf (bytes : List ℕ) (headers : List HeaderSpan) (spans : RequestSpans)
    : Type 0 where
  pub within : IsRequestWithin bytes headers spans
  pub parts : (h : RequestHead) → IsHead bytes h → IsRequestAt bytes headers spans h

-- each prefix that ends in one of the first n bytes, a line feed, is open
abbrev pub IsOpenBelow : ℕ → List ℕ → Type 0
IsOpenBelow n bytes =
    (i : ℕ) → i < n → slice_index bytes i ≡ line_feed → IsOpen (take (i + 1) bytes)

-- what true and false say of bytes: they are a head, or each of their lines leaves it open
abbrev pub FindsHead : List ℕ → Bool → Type 0
FindsHead bytes true = (h : RequestHead) × IsHead bytes h
FindsHead bytes false = IsOpenBelow (length bytes) bytes

-- the input ends before a head
pub record EndsEarly (used : List ℕ) (AtEnd : Type 0) (code : ℕ) : Type 0 where
  pub refused : code ≡ bad_request
  pub end : AtEnd
  pub short : length used < longest_head
  pub open_lines : IsOpenBelow (length used) used

-- the last line, and no line before it, makes a head impossible that has no more fields than it may
pub record IsHopeless (used : List ℕ) (code : ℕ) : Type 0 where
  pub refused : code ≡ bad_request
  pub short : length used ≤ longest_head
  pub line : (front : List ℕ) × (used ≡ front ++ line_feed ∷ [])
  pub overflows : RequestOverflows most_fields used
  pub open_lines : IsOpenBelow (length used - 1) used

-- as many bytes as a head may have are none yet
pub record IsTooLong (used : List ℕ) (code : ℕ) : Type 0 where
  pub refused : code ≡ too_large
  pub long : length used ≡ longest_head
  pub open_lines : IsOpenBelow longest_head used

-- these bytes are taken, and there is no head
abbrev pub HasNoHead : List ℕ → Type 0 → ℕ → Type 0
HasNoHead used AtEnd code = EndsEarly used AtEnd code ⊎ (IsHopeless used code ⊎ IsTooLong used code)
