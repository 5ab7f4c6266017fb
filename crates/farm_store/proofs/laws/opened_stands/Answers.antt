use Rattle.sqlite.specs.Held.{state}
use Rattle.farm_store.proofs.Listed.{opened_stands}
use Rattle.farm_store.proofs.laws.opened_stands.Goals as goal

pub returns : goal.returns
returns g c = λ opens live T holds.
    opened_stands (state g.S.Store c.args.conn.now) opens live (λ db may. g.met.S.Store.settled c.args.conn.now.store db opens.is_open may) T holds
