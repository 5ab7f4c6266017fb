-- The members of a JSON body (RFC 8259): each has its kind, and then its word.
use Rattle.std.specs.Prelude.{ℕ, List, [], ◌∷◌, Option, None, is_some, ok_or, option_and_then, Result, Ok, Err, codes, if◌then◌else◌}
use Rattle.std.specs.Str.{is_utf8}
use Rattle.serde_json.specs.Data.{Data, Items, no_items, item}
use Rattle.serde_json.specs.Read.{read}
use Rattle.serde_json.specs.Find.{get, as_str, as_array, as_object}
use Rattle.farm_types.specs.Names.{bad_name, bad_request, bad_tag, has_no_name_tag, is_word, longest_name, tags_among, word_or, ◌>>=◌}

-- what must be there and of its kind
abbrev pub there_or : {A : Type 0} → Option A → Result A ℕ
there_or o = ok_or o bad_request

-- the object that a body spells
unfoldable pub object_in : List ℕ → Result Data ℕ
object_in body = do
  d ← there_or (if is_utf8 body then read body else None)
  if is_some (as_object d) then Ok d else Err bad_request

-- the text under a key
unfoldable pub text_in : List ℕ → Data → Result (List ℕ) ℕ
text_in key d = there_or (option_and_then as_str (get key d))

-- a name, or a bad one
abbrev pub name_or : List ℕ → Result (List ℕ) ℕ
name_or text = word_or (is_word longest_name text) text bad_name

-- the name under a key
unfoldable pub name_in : List ℕ → Data → Result (List ℕ) ℕ
name_in key d = do
  text ← text_in key d
  name_or text

-- the texts of an array's items, each of them a text
abbrev pub texts_in : Items → Result (List (List ℕ)) ℕ
texts_in no_items = Ok []
texts_in (item d ds) = there_or (as_str d) >>= λ text. texts_in ds >>= λ texts. Ok (text ∷ texts)

-- the tags that a value spells: its kinds are looked at first, then the count, then each tag
unfoldable pub tags_from : Data → Result (List (List ℕ)) ℕ
tags_from d = do
  items ← there_or (as_array d)
  texts ← texts_in items
  tags_among texts

-- the tags under the key `tags`
unfoldable pub tags_in : Data → Result (List (List ℕ)) ℕ
tags_in d = do
  field ← there_or (get (codes "tags") d)
  tags_from field

-- tags for a board: none has the key `name`
abbrev pub board_tags : List (List ℕ) → Result (List (List ℕ)) ℕ
board_tags tags = if has_no_name_tag tags then Ok tags else Err bad_tag
