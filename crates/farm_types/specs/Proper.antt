-- Which commands are proper: the others never reach the farm.
use Rattle.std.specs.Prelude.{ℕ, ◌==◌, ◌&&◌, Bool, true, not, nat_le, List, length, is_some, codes, Option}
use Rattle.std.specs.List.{list_all, list_any}
use Rattle.std.specs.Str.{bytes_eq, is_utf8}
use Rattle.farm_types.specs.Words.{tag_key, is_word, is_tags}
use Rattle.std.specs.Option.{option_map_or}
use Rattle.farm_types.specs.Limits.{longest_key, longest_name, longest_text, most_wants}
use Rattle.farm_types.specs.declared.rows.Want.{Want}
use Rattle.farm_types.specs.Codes.{same_outcome}
use Rattle.farm_types.specs.declared.rows.Outcome.{Outcome}
use Rattle.farm_types.specs.declared.rows.Check.{Check}
use Rattle.farm_types.specs.declared.calls.Cmd.{Cmd}
pub use Rattle.farm_types.specs.Limits.{is_priority, is_every, are_few_wants}

-- the check's frequency is one
abbrev pub is_frequency : Check → Bool
is_frequency Check.Never = true
is_frequency (Check.Hours n) = is_every n
is_frequency (Check.Jobs n) = is_every n

-- no tag has the key `name`, which each board carries by itself
abbrev pub has_no_name_tag : List (List ℕ) → Bool
has_no_name_tag tags = not (list_any (λ tag. bytes_eq (tag_key tag) (codes "name")) tags)

-- a want names a type, if it names one, and tags
abbrev pub is_want : Want → Bool
is_want w = option_map_or (is_word longest_name) w.kind true && is_tags w.tags

-- the words of a command are words, and it keeps the rules above
unfoldable pub is_proper_cmd : Cmd → Bool
is_proper_cmd (Cmd.AddType name check) = is_word longest_name name && is_frequency check
is_proper_cmd (Cmd.AddBoard name kind tags) = is_word longest_name name && is_word longest_name kind && is_tags tags && has_no_name_tag tags
is_proper_cmd (Cmd.SetTags name tags) = is_word longest_name name && is_tags tags && has_no_name_tag tags
is_proper_cmd (Cmd.SetHealth name health) = is_word longest_name name
is_proper_cmd (Cmd.Submit priority wants roles body) =
    is_priority priority && nat_le 1 (length wants) && nat_le (length wants) most_wants && list_all (λ w. is_some w.kind && is_want w) wants
    && (length roles == length wants) && list_all (λ r. option_map_or (is_word longest_name) r true) roles && nat_le (length body) longest_text && is_utf8 body
is_proper_cmd (Cmd.Finish number outcome) = not (same_outcome outcome Outcome.Canceled)
is_proper_cmd (Cmd.Reserve priority tags) = is_priority priority && is_tags tags
is_proper_cmd cmd = true

-- so do its caller and its key
abbrev pub is_proper : List ℕ → Option (List ℕ) → Cmd → Bool
is_proper caller key cmd = is_word longest_name caller && option_map_or (is_word longest_key) key true && is_proper_cmd cmd
