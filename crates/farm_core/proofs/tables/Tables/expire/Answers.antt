use Rattle.std.proofs.Common.{◌∙◌, ap}
use Rattle.farm_core.specs.Came.{seen, seen_at}
use Rattle.farm_core.specs.Plain.{plain_farm}
use Rattle.farm_core.specs.declared.board_effect.BoardEffect.{BoardEffect}
use Rattle.farm_core.proofs.EditLemmas.{keeps_boards}
use Rattle.farm_core.proofs.Leasing.{ended}
use Rattle.farm_core.proofs.Steps.{boards_lead, lead_on_join, lead_on_none}
use Rattle.farm_core.proofs.tables.Tables.expire.Goals as goal

pub change_where-requires : goal.change_where-requires
change_where-requires c = keeps_boards BoardEffect.Free tt

pub returns-clause-left : goal.returns-clause-left
returns-clause-left c =
    let T = c.args.self.now in
    record {
      now = c.in_ok-count.ensures.left.now
          ∙ ap ended (λ i. seen_at (record (plain_farm T) { boards = c.in_ok-change_where.ensures.rows i }) (seen T));
      logs = lead_on_join _ _ _ (boards_lead _ _ _ (lead_on_none T) c.in_ok-change_where.ensures.leads) c.in_ok-count.ensures.left.logs;
    }
