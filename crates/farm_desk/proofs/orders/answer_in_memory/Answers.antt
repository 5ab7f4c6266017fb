use Rattle.std.proofs.Common.{refl}
use Rattle.std.proofs.lemmas.Result.{err_from_is_err_and}
use Rattle.farm_desk.proofs.orders.answer_in_memory.Goals as goal

pub returns-in_err-keeper : goal.returns-in_err-keeper
returns-in_err-keeper g c = λ labs.
    let p = err_from_is_err_and c.from_residual.result c.from_residual.ensures.1 in
    record { opened = c.memory_keeper.result; opens = c.memory_keeper.ensures; does = rw (c.in_err-keeper.was, p.1, p.2) (refl, refl) }

pub returns : goal.returns
returns g c = λ labs. record { opened = c.memory_keeper.result; opens = c.memory_keeper.ensures; does = rw c.in_ok-keeper.was (c.answer_one.new.keeper, c.answer_one.ensures) }
