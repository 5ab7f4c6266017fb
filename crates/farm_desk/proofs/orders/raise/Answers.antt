use Rattle.farm_desk.proofs.orders.raise.Goals as goal

pub returns-in-Ok-clause-raised : goal.returns-in-Ok-clause-raised
returns-in-Ok-clause-raised g c = rw c.of.ensures c.in-Ok.ensures.raised
