use Rattle.std.proofs.Common.{◌≡◌, ◌∙◌, Some, filter, get_or, not, option_map, ap, sym}
use Rattle.farm_core.proofs.Names.{BoardRow, bytes_eq, idle_boards, IdleBoard}
use Rattle.std.proofs.lemmas.Option.{slice_get-get_or}
use Rattle.farm_types.specs.Names.{Farm, first_free}
use Rattle.farm_core.specs.Came.{Seen, seen}
use Rattle.farm_core.proofs.Collected.{held_free, takes_one}
use Rattle.farm_core.proofs.Places.{board_at}
use Rattle.farm_core.proofs.tables.Tables.collect_member.Goals as goal

pub returns-in_ok-assign_job-clause-collects : goal.returns-in_ok-assign_job-clause-collects
returns-in_ok-assign_job-clause-collects c = λ j has.
    let D : Seen = seen c.args.self.now in
    let F : Farm = D.farm in
    let at = c.in-Some.at in
    let b = c.index-rows-at.result in
    let is : b ≡ get_or F.boards at b = c.index-rows-at.is ∙ ap (λ bs. get_or bs at b) c.rows.ensures.rows in
    let picked : Some b.name ≡ option_map (λ (b : BoardRow). b.name) (first_free F j.want) = ap (option_map (λ (b : BoardRow). b.name)) (ap Some is ∙ sym (slice_get-get_or F.boards at b c.in-Some.ensures.within) ∙ c.in-Some.ensures.first j has) in
    let made = takes_one F c.args.number j has b.name picked in
    let given = (c.in_ok-assign_job.ensures b is).now in
    let farm = ap (λ (E : Seen). E.farm) given ∙ made in
    let boards = (λ i. filter (λ (x : IdleBoard). not (bytes_eq x.name b.name)) (c.requires.free i)) ∙ held_free F.types b.name c.args.number F.boards ∙ ap idle_boards made in
    let lists = ap (λ (E : Seen). E.queues) given ∙ c.take_board.ensures
    ∙ (λ i. record D.queues { boards = filter (λ (x : IdleBoard). not (bytes_eq x.name (sym c.index-rows-at.is i).name)) D.queues.boards })
    ∙ (λ i. record D.queues { boards = boards i }) in
    λ i. record { farm = farm i; queues = lists i }

pub returns-in_ok-assign_job-clause-logs : goal.returns-in_ok-assign_job-clause-logs
returns-in_ok-assign_job-clause-logs c =
    let it = board_at c.args.self.now.boards.rows c.in-Some.at c.in-Some.ensures.within in
    let logs = (c.in_ok-assign_job.ensures it.0 it.1).logs in
    record { types = logs.types; boards = logs.boards; jobs = logs.jobs; reservations = logs.reservations; kept = logs.kept }
