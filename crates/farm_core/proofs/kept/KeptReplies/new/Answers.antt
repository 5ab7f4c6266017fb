use Rattle.std.proofs.Common.{[], map, ap, refl, subst, sym}
use Rattle.std.specs.List.Sorted.{IsStrictlySortedBy}
use Rattle.farm_core.specs.Replies.{AreJoined, kept_row}
use Rattle.farm_core.proofs.Replies.{kept_made}
use Rattle.farm_core.proofs.kept.KeptReplies.new.Goals as goal

pub invariant_of-result : goal.invariant_of-result
unfolding IsStrictlySortedBy
invariant_of-result c =
    kept_made c.new.result c.new-2.result.entries [] c.new-3.result.items tt c.new.ensures (ap (map kept_row) c.new-2.ensures.empty) c.new-3.ensures.items 0 refl (subst AreJoined (sym c.new-2.ensures.empty) tt)
