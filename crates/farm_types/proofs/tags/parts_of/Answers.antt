use Rattle.std.proofs.Common.{◌==◌, ◌∙◌, sym, refl, rules}
use Rattle.std.proofs.lemmas.Iterator.Consumers.{map_from_collect}
use Rattle.std.proofs.lemmas.Iterator.Splits.{YieldsList-from_slice_split}
use Rattle.farm_types.proofs.SortedTags.{parts_of_none, parts_of_some}
use Rattle.farm_types.proofs.tags.parts_of.Goals as goal

pub returns-then-is_empty : goal.returns-then-is_empty
returns-then-is_empty c = rw (c.new.ensures.items, parts_of_none c.args.text.now (sym c.is_empty.ensures ∙ c.if-is_empty.true)) refl

pub returns : goal.returns
returns c =
    rw (parts_of_some c.args.text.now (sym c.is_empty.ensures ∙ c.if-is_empty.false))
    (map_from_collect _ c.collect.ensures.ran
    (YieldsList-from_slice_split _ (λ byte. byte == 44) c.args.text.now c.split.ensures.rest c.split.ensures.done c.split.ensures.closure (λ x b q called. search rules)))
