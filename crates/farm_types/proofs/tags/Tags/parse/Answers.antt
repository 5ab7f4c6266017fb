use Rattle.std.proofs.Common.{◌∙◌, sym, ap, arith}
use Rattle.std.proofs.lemmas.List.{length-map}
use Rattle.std.proofs.lemmas.Bool.Decides.{nat_tests}
use Rattle.farm_types.specs.Words.{rise}
use Rattle.farm_types.proofs.SortedTags.{tags_checked}
use Rattle.farm_types.proofs.tags.Tags.parse.Goals as goal

pub sharing-requires : goal.sharing-requires
sharing-requires c =
    tags_checked _ c.in_ok-items.items.items c.in_ok-items.ensures
    (rw (length-map c.as_slice.result.now (λ part. part.now)) (grind (arith, nat_tests, c.as_slice.ensures.len, c.in_ok-unless.ensures)))
    (ap rise (sym c.as_slice-2.ensures.value) ∙ sym c.rise.ensures ∙ c.in_ok-unless-2.ensures)
