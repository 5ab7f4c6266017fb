use Rattle.std.proofs.Common.{Ok, Err, refl}
use Rattle.std.proofs.lemmas.Result.{err_from_is_err_and}
use Rattle.farm_desk.proofs.orders.migrate.Goals as goal

pub returns-in_err-spent : goal.returns-in_err-spent
returns-in_err-spent g c =
    let p = err_from_is_err_and c.from_residual.result c.from_residual.ensures.1 in
    record {
      raised = Err c.in_err-spent.field-0.0;
      raises = tt;
      fault = c.in_err-spent.ensures.fault;
      prints = rw (p.1, p.2) (refl, refl);
    }

pub returns : goal.returns
returns g c = record {
  raised = Ok c.in_ok-spent.spent.it;
  raises = c.in_ok-spent.ensures.raised;
  fault = tt;
  prints = c.print_line.ensures;
}
