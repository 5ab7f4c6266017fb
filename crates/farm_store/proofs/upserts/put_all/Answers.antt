use Rattle.std.proofs.Common.{sym, subst, ap, ◌∙◌}
use Rattle.farm_store.proofs.Names.{IsInside, state, untagged}
use Rattle.sqlite_rules.proofs.ViewLemmas.{on_ok_both}
use Rattle.farm_store.specs.Columns.{numbers_of, rows_of}
use Rattle.farm_store.proofs.Commute.{commutes, numbers_there}
use Rattle.farm_store.proofs.GoingOn.{was_clean}
use Rattle.farm_store.proofs.upserts.put_all.Goals as goal

pub returns-clause-put : goal.returns-clause-put
returns-clause-put g c clean = on_ok_both c.change_numbers.result (λ put opened F at.
    let kept = was_clean c.change_numbers.ensures.goes_on clean in
    let reserved = was_clean c.put_rows-5.ensures.goes_on kept in
    let jobs = was_clean c.put_rows-4.ensures.goes_on reserved in
    let boards = was_clean c.put_rows-3.ensures.goes_on jobs in
    let types = was_clean c.put_rows-2.ensures.goes_on boards in
    let t = c.args.tagged.now in
    let types_are = ap untagged c.deref.ensures.value ∙ t.types_are in
    let boards_are = ap untagged c.deref-2.ensures.value ∙ t.boards_are in
    let jobs_are = ap untagged c.deref-3.ensures.value ∙ t.jobs_are in
    let reservations_are = ap untagged c.deref-4.ensures.value ∙ t.reservations_are in
    let kept_are = ap untagged c.deref-5.ensures.value ∙ t.kept_are in
    let one = rw types_are at (c.in_ok-put_rows.ensures.put types (rows_of F) at) in
    let two = rw boards_are at (c.in_ok-put_rows-2.ensures.put boards _ one) in
    let three = rw jobs_are at (c.in_ok-put_rows-3.ensures.put jobs _ two) in
    let four = rw reservations_are at (c.in_ok-put_rows-4.ensures.put reserved _ three) in
    let five = rw kept_are at (c.in_ok-put_rows-5.ensures.put kept _ four) in
    let six = put _ (numbers_of F) five (numbers_there F) in
    let still = opened five.inside in
    (subst (IsInside (state g.S.Store c.change_numbers.new.tx.conn.now)) (sym (commutes F t.rows.now)) six, still.1)) (c.change_numbers.ensures.put clean) (c.change_numbers.ensures.stays_open clean)
