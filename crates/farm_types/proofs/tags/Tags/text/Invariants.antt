use Rattle.std.proofs.Common.{◌≡◌, take, string_bytes}
use Rattle.farm_types.specs.Tags.{tags_text}
use Rattle.farm_types.proofs.tags.Tags.text.Given as goal

-- the text of the first tags
abbrev pub invariant-loop-at : goal.invariant-loop-at
invariant-loop-at l = string_bytes l.text ≡ tags_text (take l.at l.self)
