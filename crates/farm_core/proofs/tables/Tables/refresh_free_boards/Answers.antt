use Rattle.std.proofs.Common.{◌∙◌, ap}
use Rattle.std.specs.List.{fold}
use Rattle.farm_core.specs.Following.{free_of, free_boards_with}
use Rattle.farm_core.proofs.Free.{noted_all}
use Rattle.farm_core.proofs.Steps.{lead_on_none}
use Rattle.farm_core.specs.Plain.{plain_farm}
use Rattle.farm_core.proofs.tables.Tables.refresh_free_boards.Goals as goal

pub returns : goal.returns
returns c =
    let T = c.args.self.now in
    let log = T.boards.log in
    let boards = (λ i. fold (free_boards_with T.types.rows) (c.requires.free i) log)
    ∙ noted_all T.types.rows log c.requires.boards c.requires.sorted
    ∙ ap (free_of T.types.rows) c.requires.led in
    let followed = c.in_ok-note_boards.ensures
    ∙ (λ i. record T.queues { boards = fold (free_boards_with (c.rows.ensures.rows i)) T.queues.boards (c.log.ensures.log i) }) in
    let logs = lead_on_none T in
    record {
      now = λ i. record { farm = plain_farm T; queues = (followed ∙ (λ j. record T.queues { boards = boards j })) i };
      logs = record { types = logs.types; boards = logs.boards; jobs = logs.jobs; reservations = logs.reservations; kept = logs.kept };
    }
