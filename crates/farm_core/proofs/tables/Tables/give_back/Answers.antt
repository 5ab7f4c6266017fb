use Rattle.std.proofs.Common.{sym}
use Rattle.farm_core.specs.Came.{seen, seen_at}
use Rattle.farm_core.specs.Plain.{plain_farm}
use Rattle.farm_core.proofs.Collected.{back_of_none}
use Rattle.farm_core.proofs.Sound.{small_collector}
use Rattle.farm_core.proofs.Steps.{lead_on_none}
use Rattle.farm_core.proofs.tables.Tables.give_back.Goals as goal

pub returns-then-group-eq0 : goal.returns-then-group-eq0
returns-then-group-eq0 c =
    let T = c.args.self.now in
    record { now = λ i. seen_at (sym (back_of_none (plain_farm T) c.requires c.if-group-eq0.true) i) (seen T); logs = lead_on_none T }

pub edit_jobs_and_boards-requires-clause-first : goal.edit_jobs_and_boards-requires-clause-first
edit_jobs_and_boards-requires-clause-first c = small_collector (plain_farm c.args.self.now) c.requires
