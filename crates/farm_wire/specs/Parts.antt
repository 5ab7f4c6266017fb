-- The members of an object, and what stands behind their keys.
use Rattle.std.specs.Prelude.{ℕ, List, Bool}
use Rattle.std.specs.List.{list_all}
use Rattle.std.specs.Borrow.{Bor}
use Rattle.serde_json.specs.Data.{Data, string}
use Rattle.farm_types.specs.Names.{holder_text}
use Rattle.farm_wire.specs.Shown.{count, texts, word_or_none}
use Rattle.farm_wire.specs.Plain.{is_plain}
use Rattle.farm_wire.specs.declared.shown.JsonValue.{JsonValue}

-- what stands behind a key
abbrev pub part_data : JsonValue → Data
part_data (JsonValue.Number n) = count n
part_data (JsonValue.Text text) = string text.now
part_data (JsonValue.Name name) = string name.now
part_data (JsonValue.NameOrNone name) = word_or_none name.now
part_data (JsonValue.Holder holder) = string (holder_text holder)
part_data (JsonValue.Tags tags) = texts tags.now

-- a key, and what stands behind it
abbrev pub member_of : Bor (List ℕ) × JsonValue → List ℕ × Data
member_of m = (m.0.now, part_data m.1)

-- a key that shows as it is
abbrev pub has_plain_key : Bor (List ℕ) × JsonValue → Bool
has_plain_key m = list_all is_plain m.0.now
