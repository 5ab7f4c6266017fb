use Rattle.std.proofs.Common.{sym, arith}
use Rattle.std.proofs.lemmas.Bool.Decides.{nat_tests}
use Rattle.farm_types.proofs.SortedTags.{none_put, one_put, tags_from}
use Rattle.farm_types.proofs.tags.Tags.of.Goals as goal

pub loop-tag-init : goal.loop-tag-init
loop-tag-init c =
    let none = none_put c.in_ok-items.items.items c.in_ok-items.ensures.items in
    record { put = none.0; sorted = none.1; each = none.2; few = none.3 }

pub loop-tag-preserved : goal.loop-tag-preserved
loop-tag-preserved c =
    let more = one_put c.args.tags.now c.loop-tag.items.items c.upsert.new.rows.items c.loop-tag.tag-index c.tag-item.result c.in_ok-copy.field-0 c.loop-tag-test.true (sym c.tag-item.is) c.in_ok-copy.ensures.same c.as_str-tag.ensures.tag
    c.loop-tag.invariant.put c.loop-tag.invariant.sorted c.loop-tag.invariant.each c.loop-tag.invariant.few c.in_ok-upsert.ensures.rows in
    record { put = more.0; sorted = c.in_ok-upsert.ensures.sorted; each = more.1; few = more.2 }

pub sharing-requires : goal.sharing-requires
sharing-requires c = tags_from c.loop-tag.items.items (grind (arith, nat_tests, c.in_ok-unless.ensures)) c.loop-tag.invariant.each c.loop-tag.invariant.sorted
