-- The fields of a head: what stands under a name, and how long the body is.
use Rattle.std.specs.Prelude.{ℕ, List, [], ◌∷◌, map, filter, ◌&&◌, nat_lt, nat_le, length, if◌then◌else◌, Option, Some, None, Result, Ok, Err, codes}
use Rattle.std.specs.Borrow.{Bor}
use Rattle.std.specs.List.{list_all}
use Rattle.std.specs.Char.{is_ascii_digit}
use Rattle.std.specs.Str.{str_eq_ignore_ascii_case}
use Rattle.std.specs.Str.Parse.{digits_value}
use Rattle.httparse.specs.Grammar.{RequestHead}
use Rattle.httparse.specs.Spans.{name_and_value}
use Rattle.farm_types.specs.Names.{bad_coding, bad_request, longest_body, too_large}
use Rattle.farm_http.specs.declared.fields.Repeated.{Repeated}

-- each field's name, and its value without the spaces and tabs at both ends
abbrev pub fields_of : RequestHead → List (List ℕ × List ℕ)
fields_of h = map name_and_value h.fields

-- the values of the fields of that name, whatever the case of its letters
abbrev pub field_values : List ℕ → List (List ℕ × List ℕ) → List (List ℕ)
field_values name fields =
    map (λ field. field.1) (filter (λ field. str_eq_ignore_ascii_case field.0 name) fields)

-- what stands under one name: nothing, one value, or several
pub data Lookup : Type 0 where
  absent several : Lookup
  one : List ℕ → Lookup

abbrev pub lookup_of : List (List ℕ) → Lookup
lookup_of [] = absent
lookup_of (value ∷ []) = one value
lookup_of (value ∷ (other ∷ values)) = several

-- what the fields have under a name
abbrev pub field_of : List ℕ → List (List ℕ × List ℕ) → Lookup
field_of name fields = lookup_of (field_values name fields)

-- the same as a call answers it
abbrev pub called_lookup : Result (Option (Bor (List ℕ))) Repeated → Lookup
called_lookup (Ok None) = absent
called_lookup (Ok (Some value)) = one value.now
called_lookup (Err e) = several

-- the number that a value declares, or the number of the refusal
abbrev pub declared_length : List ℕ → Result ℕ ℕ
declared_length value =
    if nat_lt 0 (length value) && list_all is_ascii_digit value
    then (if nat_le (digits_value 10 value) longest_body then Ok (digits_value 10 value)
    else Err too_large)
    else Err bad_request

-- the length that `content-length` declares: none declares 0, and two are too many
abbrev pub content_length : Lookup → Result ℕ ℕ
content_length absent = Ok 0
content_length (one value) = declared_length value
content_length several = Err bad_request

-- a request with `transfer-encoding` is refused, whatever its value
abbrev pub unless_coded : Lookup → Result ℕ ℕ → Result ℕ ℕ
unless_coded absent found = found
unless_coded coded found = Err bad_coding

-- how long the body is by these fields, or the number of the refusal
abbrev pub length_among : List (List ℕ × List ℕ) → Result ℕ ℕ
length_among fields =
    unless_coded (field_of (codes "transfer-encoding") fields)
    (content_length (field_of (codes "content-length") fields))

-- how long the body is that follows a head
abbrev pub body_length : RequestHead → Result ℕ ℕ
body_length h = length_among (fields_of h)
