use Rattle.std.proofs.Common.{◌≡◌, ◌∙◌, ap, sym}
use Rattle.farm_pick.specs.Several.{has_spot, is_several}
use Rattle.farm_pick.specs.declared.spot.Spot.{Spot}
use Rattle.farm_pick.proofs.Shown.{well_new}
use Rattle.farm_pick.proofs.queues.Queues.new.Goals as goal

pub invariant_of-result : goal.invariant_of-result
invariant_of-result c = record {
  well = well_new c.new.result.items c.new-2.result.entries c.new-3.result.entries c.new-5.result.items c.new.ensures.items c.new-2.ensures.empty c.new-3.ensures.empty c.new-5.ensures.items;
  several = is_both;
}
  where
    is_both : (s : Spot) → has_spot c.new-4.result.keys s ≡ is_several c.new-2.result.entries s
    is_both s = ap (λ ranks. has_spot ranks s) c.new-4.ensures.empty ∙ sym (ap (λ es. is_several es s) c.new-2.ensures.empty)
