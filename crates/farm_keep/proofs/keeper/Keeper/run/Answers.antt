use Rattle.farm_keep.proofs.keeper.Keeper.run.Goals as goal

pub returns : goal.returns
returns g c = rw (c.len.ensures, c.err-fault.ensures.value) c.run_into.ensures
