use Rattle.std.proofs.Common.{◌∙◌, sym}
use Rattle.farm_types.proofs.TagLemmas.{tag_with, tag_without}
use Rattle.farm_types.proofs.tags.is_tag.Goals as goal

pub returns-in-None : goal.returns-in-None
returns-in-None c = c.is_word.ensures ∙ sym (tag_without c.args.text.now (sym c.key_end.ensures ∙ c.in-None.is))

pub returns-in-Some : goal.returns-in-Some
returns-in-Some c = c.is_keyed.ensures ∙ sym (tag_with c.args.text.now c.in-Some.end (sym c.key_end.ensures ∙ c.in-Some.is))
