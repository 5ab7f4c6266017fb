-- Which lists and which texts spell tags.
use Rattle.std.specs.Prelude.{ℕ, ◌==◌, ◌&&◌, nat_lt, List, [], ◌∷◌, length, Result, Ok, Err, if◌then◌else◌}
use Rattle.std.specs.List.{list_all, join_with_byte, slice_split}
use Rattle.farm_types.specs.Limits.{most_tags}
use Rattle.farm_types.specs.Words.{is_tag, rise, text_cmp}
use Rattle.farm_types.specs.Table.{put_all}
use Rattle.farm_types.specs.Reads.{◌>>=◌}
use Rattle.farm_types.specs.Refusals.{bad_count, bad_tag}

-- tags from outside have any order and doubles: where they are few they are put in order, each once
unfoldable pub tags_of : List (List ℕ) → Result (List (List ℕ)) ℕ
tags_of items = if nat_lt most_tags (length items) then Err bad_count else Ok (put_all text_cmp [] items)

-- the canonical text of tags joins them by commas
abbrev pub tags_text : List (List ℕ) → List ℕ
tags_text tags = join_with_byte 44 tags

-- what stands between the commas of a text; nothing in an empty one
abbrev pub tag_parts : List ℕ → List (List ℕ)
tag_parts [] = []
tag_parts (c ∷ text) = slice_split (λ byte. byte == 44) (c ∷ text)

-- the parts, where each is a tag
abbrev pub list_of_tags : List (List ℕ) → Result (List (List ℕ)) ℕ
list_of_tags parts = if list_all is_tag parts then Ok parts else Err bad_tag

-- the tags that texts spell: where they are few they are put in order, each once
unfoldable pub tags_among : List (List ℕ) → Result (List (List ℕ)) ℕ
tags_among texts = if nat_lt most_tags (length texts) then Err bad_count else list_of_tags texts >>= tags_of

-- the tags that a text spells, where it is their canonical text
unfoldable pub tags_read : List ℕ → Result (List (List ℕ)) ℕ
tags_read text =
    if nat_lt most_tags (length (tag_parts text)) then Err bad_count
    else if list_all is_tag (tag_parts text) && rise (tag_parts text) then Ok (tag_parts text)
    else Err bad_tag
