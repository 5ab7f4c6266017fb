-- What is taken of an input: a request, or bytes with the first refusal.
use Rattle.std.specs.Prelude.{◌≡◌, ℕ, ◌<◌, ◌⊎◌, List, ◌++◌, length, drop, Ok, Err}
use Rattle.httparse.specs.Grammar.{RequestHead, print_request}
use Rattle.farm_types.specs.Names.{bad_request}
use Rattle.farm_http.specs.Fields.{body_length}
use Rattle.farm_http.specs.Heads.{IsHead, HasNoHead}
use Rattle.farm_http.specs.Request.{Request, request_of}

-- the first head bytes are the head h, and the others a body as long as h's fields declare
pub record IsRequestOf (bytes : List ℕ) (head : ℕ) (h : RequestHead) : Type 0 where
  pub front : IsHead (print_request h) h
  pub head_is : head ≡ length (print_request h)
  pub whole : bytes ≡ print_request h ++ drop head bytes
  pub declared : body_length h ≡ Ok (length (drop head bytes))

-- the bytes are a head, as long as that, and its body
abbrev pub IsRequest : List ℕ → ℕ → Type 0
IsRequest bytes head = (h : RequestHead) × IsRequestOf bytes head h

-- the same, and the bytes say that
abbrev pub ParsesTo : List ℕ → ℕ → Request → Type 0
ParsesTo bytes head request =
    (h : RequestHead) × IsRequestOf bytes head h × (request ≡ request_of h (drop head bytes))

-- the head's fields are refused
pub record IsRefusedHead (used : List ℕ) (code : ℕ) : Type 0 where
  pub head : RequestHead
  pub reads : IsHead used head
  pub refused : body_length head ≡ Err code

-- the input ends in the body
pub record IsCutBody (used : List ℕ) (AtEnd : Type 0) (code : ℕ) : Type 0 where
  pub head : RequestHead
  pub body : List ℕ
  pub len : ℕ
  pub reads : IsHead (print_request head) head
  pub whole : used ≡ print_request head ++ body
  pub declared : body_length head ≡ Ok len
  pub short : length body < len
  pub end : AtEnd
  pub refused : code ≡ bad_request

-- after these bytes there is no request, and the first refusal has this number
abbrev pub IsRefused : List ℕ → Type 0 → ℕ → Type 0
IsRefused used AtEnd code =
    HasNoHead used AtEnd code ⊎ (IsRefusedHead used code ⊎ IsCutBody used AtEnd code)
