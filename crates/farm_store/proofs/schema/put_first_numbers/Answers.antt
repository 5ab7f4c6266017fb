use Rattle.std.proofs.Common.{subst}
use Rattle.farm_store.proofs.Names.{IsInside, on_ok_weaker, state}
use Rattle.farm_store.proofs.EmptyRows.{empty_rows}
use Rattle.farm_store.proofs.GoingOn.{was_clean}
use Rattle.farm_store.proofs.schema.put_first_numbers.Goals as goal

pub returns-clause-put : goal.returns-clause-put
returns-clause-put g c clean = on_ok_weaker c.put_number-5.result (λ put at.
    let fourth = was_clean c.put_number-5.ensures.goes_on clean in
    let third = was_clean c.put_number-4.ensures.goes_on fourth in
    let second = was_clean c.put_number-3.ensures.goes_on third in
    let first = was_clean c.put_number-2.ensures.goes_on second in
    let four = c.in_ok-put_number-4.ensures.put fourth _ (c.in_ok-put_number-3.ensures.put third _ (c.in_ok-put_number-2.ensures.put second _ (c.in_ok-put_number.ensures.put first _ at))) in
    subst (IsInside (state g.S.Store c.put_number-5.new.tx.conn.now)) empty_rows (put _ four)) (c.put_number-5.ensures.put clean)
