-- The first of too many goes.
use Rattle.std.proofs.Common.{arith, ap, sym, length, ◌∙◌, true≢false}
use Rattle.std.proofs.lemmas.List.{length-drop}
use Rattle.std.specs.VecDeque.{deque_items}
use Rattle.farm_room.proofs.RowLemmas.{some_row, cuts_one}
use Rattle.farm_room.proofs.row.cut_oldest.Goals as goal

pub loop-row-preserved-in-loop-row : goal.loop-row-preserved-in-loop-row
loop-row-preserved-in-loop-row c =
    cuts_one _ (deque_items c.loop-row.row) (deque_items c.pop_front.new.self) c.pop_front.ensures.rest (λ fits. true≢false (sym (rw c.loop-row-test.true at c.fits.ensures.1 fits))) c.loop-row.invariant

pub loop-row-smaller : goal.loop-row-smaller
loop-row-smaller c =
    let row = deque_items c.loop-row.row in
    let some = some_row row (λ fits. true≢false (sym (rw c.loop-row-test.true at c.fits.ensures.1 fits))) in
    let fewer = ap length c.pop_front.ensures.rest ∙ length-drop 1 row in
    omega (arith, some, fewer)
