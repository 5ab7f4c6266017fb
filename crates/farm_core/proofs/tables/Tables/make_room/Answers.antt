use Rattle.farm_types.specs.Names.{board_cmp, job_cmp}
use Rattle.farm_core.specs.Came.{seen}
use Rattle.farm_core.proofs.Steps.{lead_on_none, leads_same}
use Rattle.farm_core.proofs.tables.Tables.make_room.Goals as goal

pub returns : goal.returns
returns c =
    let T = c.args.self.now in
    let logs = lead_on_none T in
    record {
      now = λ i. seen (record T { boards = c.reserve.ensures i; jobs = c.reserve-2.ensures i });
      logs = record { types = logs.types; boards = leads_same board_cmp _ _ c.reserve.ensures; jobs = leads_same job_cmp _ _ c.reserve-2.ensures; reservations = logs.reservations; kept = logs.kept };
    }
