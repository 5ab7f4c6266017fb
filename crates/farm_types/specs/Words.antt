-- Which texts are words. A text is the list of its bytes.
use Rattle.std.specs.Prelude.{ℕ, ◌+◌, ◌==◌, ◌&&◌, ◌||◌, Bool, true, nat_le, List, [], ◌∷◌, ◌++◌, length, IsTrue, drop, not, codes, Result, Ok, Err}
use Rattle.std.specs.Prelude.{if◌then◌else◌}
use Rattle.std.specs.List.{list_all, take_while}
use Rattle.std.specs.Str.{bytes_eq, is_utf8}
use Rattle.std.specs.Cmp.Lexicographic.{slice_cmp}
use Rattle.std.specs.Ordering.{nat_cmp, is_lt}
use Rattle.std.specs.declared.cmp.Ordering.{Ordering}
use Rattle.farm_types.specs.Limits.{longest_key, longest_name, longest_tag_key, longest_tag_value, most_tags}

-- texts stand in byte order: the first difference decides
abbrev pub text_cmp : List ℕ → List ℕ → Ordering
text_cmp = slice_cmp nat_cmp

-- a letter, a digit, '-', '_' or '.'
abbrev pub is_name_byte : ℕ → Bool
is_name_byte c =
    (nat_le 97 c && nat_le c 122) || (nat_le 65 c && nat_le c 90) || (nat_le 48 c && nat_le c 57) || (c == 45) || (c == 95) || (c == 46)

-- one up to `most` such bytes
unfoldable pub is_word : ℕ → List ℕ → Bool
is_word most text = nat_le 1 (length text) && nat_le (length text) most && list_all is_name_byte text

-- a name and a key are words, each up to its limit
abbrev pub IsName : List ℕ → Type 0
IsName text = IsTrue (is_word longest_name text)

abbrev pub IsKey : List ℕ → Type 0
IsKey text = IsTrue (is_word longest_key text)

-- a text that is carried is UTF-8
abbrev pub IsText : List ℕ → Type 0
IsText text = IsTrue (is_utf8 text)

-- what stands before the first '='
abbrev pub tag_key : List ℕ → List ℕ
tag_key = take_while (λ c. not (c == 61))

-- a tag is a key, or one, '=' and a value
unfoldable pub is_tag : List ℕ → Bool
is_tag text = is_word longest_tag_key (tag_key text) && (bytes_eq (tag_key text) text || is_word longest_tag_value (drop (length (tag_key text) + 1) text))

abbrev pub IsTag : List ℕ → Type 0
IsTag text = IsTrue (is_tag text)

-- the texts rise in byte order, without doubles
abbrev pub rise : List (List ℕ) → Bool
rise [] = true
rise (x ∷ []) = true
rise (x ∷ y ∷ rest) = is_lt (text_cmp x y) && rise (y ∷ rest)

-- a few tags in byte order without doubles
unfoldable pub is_tags : List (List ℕ) → Bool
is_tags tags = nat_le (length tags) most_tags && list_all is_tag tags && rise tags

abbrev pub IsTags : List (List ℕ) → Type 0
IsTags tags = IsTrue (is_tags tags)

-- a text that keeps its rule, or the code of the refusal
abbrev pub word_or : Bool → List ℕ → ℕ → Result (List ℕ) ℕ
word_or right text code = if right then Ok text else Err code

-- the tag that each board carries for its name
abbrev pub name_tag : List ℕ → List ℕ
name_tag name = codes "name=" ++ name
