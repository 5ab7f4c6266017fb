use Rattle.sqlite.specs.Steps.{over_memory}
use Rattle.farm_types.specs.Names.{empty_farm}
use Rattle.farm_premises.proofs.MetLemmas.{keeps_adopted}
use Rattle.farm_premises.proofs.keepers.adopted.Goals as goal

pub returns-in-Ok : goal.returns-in-Ok
returns-in-Ok c =
    let on = c.in_ok-conn.ensures.opens in
    record {
      conn = c.in_ok-conn.conn;
      on = on;
      adopts = c.in-Ok.ensures.adopted;
      keeps = keeps_adopted over_memory c.in_ok-conn.conn c.in-Ok.keeper empty_farm c.opened_stands.ensures on c.in-Ok.ensures.adopted;
    }
