-- Who sends a request, and under which key its reply is kept: two fields of its head.
use Rattle.std.specs.Prelude.{ℕ, List, Option, Some, None, Result, Ok, Err, codes}
use Rattle.farm_types.specs.Names.{bad_key, bad_name, bad_request, is_word, longest_key, longest_name, word_or, ◌>>=◌}
use Rattle.farm_http.specs.Fields.{Lookup, absent, several, one, field_of}

-- the caller's name stands once
abbrev pub caller_or : Lookup → Result (List ℕ) ℕ
caller_or absent = Err bad_request
caller_or several = Err bad_request
caller_or (one value) = word_or (is_word longest_name value) value bad_name

-- who sends a request
unfoldable pub caller_in : List (List ℕ × List ℕ) → Result (List ℕ) ℕ
caller_in fields = caller_or (field_of (codes "x-user") fields)

-- a key stands at most once
abbrev pub key_or : Lookup → Result (Option (List ℕ)) ℕ
key_or absent = Ok None
key_or several = Err bad_request
key_or (one value) = word_or (is_word longest_key value) value bad_key >>= λ key. Ok (Some key)

-- the key of a request, if it has one
unfoldable pub key_in : List (List ℕ × List ℕ) → Result (Option (List ℕ)) ℕ
key_in fields = key_or (field_of (codes "x-key") fields)
