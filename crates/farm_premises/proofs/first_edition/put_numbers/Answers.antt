use Rattle.std.proofs.Common.{subst}
use Rattle.std.proofs.lemmas.Result.{on_ok_weaker}
use Rattle.sqlite.specs.Held.{state}
use Rattle.farm_store.specs.Holds.{IsInside}
use Rattle.farm_store.proofs.GoingOn.{was_clean}
use Rattle.farm_premises.proofs.FirstRows.{first_rows}
use Rattle.farm_premises.proofs.first_edition.put_numbers.Goals as goal

pub returns-clause-put : goal.returns-clause-put
returns-clause-put g c clean = on_ok_weaker c.put_number-4.result (λ put at.
    let third = was_clean c.put_number-4.ensures.goes_on clean in
    let second = was_clean c.put_number-3.ensures.goes_on third in
    let first = was_clean c.put_number-2.ensures.goes_on second in
    let three = c.in_ok-put_number-3.ensures.put third _ (c.in_ok-put_number-2.ensures.put second _ (c.in_ok-put_number.ensures.put first _ at)) in
    subst (IsInside (state g.S.Store c.put_number-4.new.tx.conn.now)) first_rows (put _ three)) (c.put_number-4.ensures.put clean)
