-- The words of a file: each value has its kind, and then its word.
use Rattle.std.specs.Prelude.{ℕ, ℤ, pos, negsuc, List, [], ◌∷◌, ◌++◌, Option, Some, None, Result, Ok, codes}
use Rattle.std.specs.Option.{option_map_or}
use Rattle.toml.specs.Data.{Data, Items, no_items, item, Members, no_members, member, get, as_str, as_array, as_integer}
use Rattle.farm_types.specs.Names.{bad_name, is_word, longest_name, tags_among, word_or, ◌>>=◌}
use Rattle.farm_jobfile.specs.Reading.{Fault, or_word, there_or, kind_or}
use Rattle.farm_jobfile.specs.declared.fault.FileKind.{FileKind}

-- a number that is not below zero
abbrev pub natural_of : ℤ → Option ℕ
natural_of (pos n) = Some n
natural_of (negsuc n) = None

-- the whole number under a key
unfoldable pub natural_in : FileKind → List ℕ → Data → Result (Option ℕ) Fault
natural_in file key d = do
  field ← there_or file (get key d)
  number ← kind_or file (as_integer field)
  Ok (natural_of number)

-- a name, or a bad one
abbrev pub name_or : List ℕ → Result (List ℕ) Fault
name_or text = or_word (word_or (is_word longest_name text) text bad_name)

-- the name that a value spells, a text
unfoldable pub name_from : FileKind → Data → Result (List ℕ) Fault
name_from file d = do
  text ← kind_or file (as_str d)
  name_or text

-- the name under a key, which must be there
unfoldable pub name_in : FileKind → List ℕ → Data → Result (List ℕ) Fault
name_in file key d = do
  field ← there_or file (get key d)
  name_from file field

-- the texts of an array's items, each of them a text
abbrev pub texts_in : FileKind → Items → Result (List (List ℕ)) Fault
texts_in file no_items = Ok []
texts_in file (item d rest) = kind_or file (as_str d) >>= λ text. texts_in file rest >>= λ texts.
    Ok (text ∷ texts)

-- what the members of a table spell, joined in the order of the tree, which is the byte order of their names
abbrev pub all_in : {A : Type 0} → (List ℕ → Data → Result (List A) Fault) → Members → Result (List A) Fault
all_in read no_members = Ok []
all_in read (member name d rest) = read name d >>= λ here. all_in read rest >>= λ more. Ok (here ++ more)

-- the tags that a value spells: its kinds are looked at first, then the count, then each tag
unfoldable pub tags_from : FileKind → Data → Result (List (List ℕ)) Fault
tags_from file d = do
  items ← kind_or file (as_array d)
  texts ← texts_in file items
  or_word (tags_among texts)

-- the tags under the key `tags`; absent means none
unfoldable pub tags_in : FileKind → Data → Result (List (List ℕ)) Fault
tags_in file d = option_map_or (tags_from file) (get (codes "tags") d) (Ok [])
