use Rattle.std.proofs.Common.{◌≡◌, ◌∙◌, ◌<◌, length, get_or, sym, ap, arith}
use Rattle.farm_types.proofs.TagLemmas.{tags_text-more}
use Rattle.farm_types.proofs.tags.Tags.text.Goals as goal

pub loop-at-preserved : goal.loop-at-preserved
loop-at-preserved c =
    let same : c.items-tag-items.result.now ≡ c.args.self.now = c.items-tag-items.ensures.items in
    let lt : c.loop-at.at < length c.args.self.now = omega (arith, ap length same) in
    let here : get_or c.args.self.now c.loop-at.at c.tag-item.result ≡ c.tag-item.result = rw same at (sym c.tag-item.is) in
    let pushed = c.in_ok-push_str-2.ensures.bytes in
    let comma = c.in_ok-push_str.ensures.bytes in
    let more = tags_text-more c.args.self.now c.loop-at.at c.tag-item.result lt here in
    pushed ∙ rw (comma, c.comma_before.ensures, c.loop-at.invariant, c.as_str.ensures.text) more
