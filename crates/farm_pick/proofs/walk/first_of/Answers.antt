use Rattle.std.proofs.Common.{◌∙◌, ◌+◌, None, sym, subst, arith}
use Rattle.farm_pick.proofs.Names.{get_or_default}
use Rattle.std.specs.Option.{option_map}
use Rattle.farm_pick.proofs.Walking.{LeastBelow, least_more}
use Rattle.farm_pick.proofs.walk.first_of.Goals as goal

pub loop-place-preserved : goal.loop-place-preserved
loop-place-preserved c =
    subst (LeastBelow c.args.cursors.now (c.loop-place.place + 1)) (sym c.earlier-first.ensures)
    (least_more c.args.cursors.now c.loop-place.place c.index-cursors-place.result (option_map (λ f. (f.0, f.1.now)) c.loop-place.first)
    (get_or_default c.args.cursors.now c.loop-place.place None c.index-cursors-place.result (omega (arith, c.loop-place-test.true)) ∙ sym c.index-cursors-place.is) c.loop-place.invariant)
