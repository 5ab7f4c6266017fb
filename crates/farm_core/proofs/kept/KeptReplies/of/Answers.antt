use Rattle.std.proofs.Common.{◌∙◌, [], ap, not}
use Rattle.std.specs.List.{filter}
use Rattle.farm_types.specs.Names.{kept_cmp, put_all}
use Rattle.farm_core.specs.Replies.{is_packable}
use Rattle.farm_core.proofs.Replies.{kept_made, kept_split}
use Rattle.farm_core.proofs.kept.KeptReplies.of.Goals as goal

pub invariant_of-result : goal.invariant_of-result
invariant_of-result c =
    kept_made c.in_ok-packed.packed c.in_ok-others.others.entries c.args.rows.items c.new.result.items c.requires
    (c.in_ok-packed.ensures ∙ ap (filter is_packable) c.deref.ensures.value)
    (c.in_ok-others.ensures.rows ∙ ap (λ rows. put_all kept_cmp [] (filter (λ r. not (is_packable r)) rows)) c.deref-2.ensures.value)
    c.new.ensures.items c.len.result (c.len.ensures ∙ c.args.rows.ok.0) c.in_ok-others.ensures.joined

pub returns : goal.returns
returns c =
    let rows = kept_split c.in_ok-packed.packed c.in_ok-others.others.entries c.args.rows.items c.requires
    (c.in_ok-packed.ensures ∙ ap (filter is_packable) c.deref.ensures.value)
    (c.in_ok-others.ensures.rows ∙ ap (λ rows. put_all kept_cmp [] (filter (λ r. not (is_packable r)) rows)) c.deref-2.ensures.value) in
    λ i. record { rows = rows i; log = c.new.ensures.items i }
