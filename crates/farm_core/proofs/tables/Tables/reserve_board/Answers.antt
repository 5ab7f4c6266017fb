use Rattle.farm_types.specs.Names.{held_board}
use Rattle.farm_types.specs.declared.rows.State.{State}
use Rattle.farm_core.specs.Came.{seen, seen_at}
use Rattle.farm_core.specs.Plain.{plain_farm}
use Rattle.farm_core.specs.declared.board_effect.BoardEffect.{BoardEffect}
use Rattle.farm_core.proofs.EditLemmas.{keeps_boards}
use Rattle.farm_core.proofs.Places.{changed_at}
use Rattle.farm_core.proofs.Steps.{boards_lead, lead_on_none}
use Rattle.farm_core.proofs.tables.Tables.reserve_board.Goals as goal

pub change_at-requires-clause-keeps : goal.change_at-requires-clause-keeps
change_at-requires-clause-keeps c = keeps_boards (BoardEffect.Reserve c.args.holder) c.requires.small

pub returns : goal.returns
returns c = λ b is.
    let T = c.args.self.now in
    let made = changed_at (held_board c.args.holder State.Reserved) T.boards.rows c.change_at.new.self.rows c.args.at b c.rows-rows.ensures.sorted c.requires.within is c.in_ok-change_at.ensures.rows in
    record {
      now = λ i. seen_at (record (plain_farm T) { boards = made i }) (seen T);
      logs = boards_lead _ _ _ (lead_on_none T) c.in_ok-change_at.ensures.leads;
    }
