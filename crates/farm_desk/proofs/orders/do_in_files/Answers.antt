use Rattle.std.proofs.Common.{refl}
use Rattle.std.proofs.lemmas.Result.{err_from_is_err_and}
use Rattle.farm_desk.proofs.orders.do_in_files.Goals as goal

pub returns-in_err-keeper : goal.returns-in_err-keeper
returns-in_err-keeper g c =
    let p = err_from_is_err_and c.from_residual.result c.from_residual.ensures.1 in
    record {
      opened = c.open_farm.result;
      found = c.open_farm.ensures.found;
      fault = c.open_farm.ensures.fault;
      does = rw (c.in_err-keeper.was, p.1, p.2) (refl, refl);
    }

pub returns : goal.returns
returns g c = record {
  opened = c.open_farm.result;
  found = c.open_farm.ensures.found;
  fault = c.open_farm.ensures.fault;
  does = rw c.in_ok-keeper.was (c.do_with_files-spent.result.0.it, c.do_with_files-spent.ensures);
}
