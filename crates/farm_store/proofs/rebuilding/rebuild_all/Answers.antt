use Rattle.farm_store.proofs.Names.{empty_farm, on_ok_weaker}
use Rattle.farm_store.proofs.GoingOn.{was_clean}
use Rattle.farm_store.proofs.rebuilding.rebuild_all.Goals as goal

pub returns-clause-rebuilt : goal.returns-clause-rebuilt
returns-clause-rebuilt g c clean = on_ok_weaker c.put_all.result (λ put inside has.
    let filled = was_clean c.put_all.ensures.goes_on clean in
    let made = was_clean c.put_first_numbers.ensures.goes_on filled in
    let gone = was_clean c.make_all.ensures.goes_on made in
    let none = c.in_ok-drop_all.ensures.dropped gone inside has in
    let empty = c.in_ok-make_all.ensures.made made none.0 none.1 in
    put empty_farm (c.in_ok-put_first_numbers.ensures.put filled empty)) (c.put_all.ensures.put clean)
