use Rattle.std.proofs.Common.{◌≡◌, ◌+◌, get_or, true, cond, ap, sym, ◌∙◌}
use Rattle.farm_core.proofs.Names.{BoardRow, bytes_eq, Holder, State}
use Rattle.std.proofs.lemmas.List.{get_or_read}
use Rattle.farm_types.specs.Names.{change_where, check_job, Farm, has_room, held_board, job_cmp, put}
use Rattle.farm_core.specs.Came.{seen, seen_at}
use Rattle.farm_core.specs.Plain.{plain_farm}
use Rattle.farm_core.proofs.Steps.{jobs_lead, lead_on_join, lead_on_none}
use Rattle.farm_core.proofs.tables.Tables.check_board.Goals as goal

pub returns : goal.returns
returns c = λ b is.
    let T = c.args.self.now in
    let F : Farm = plain_farm T in
    let same : c.index-rows-at.result ≡ b =
    get_or_read T.boards.rows c.args.at c.index-rows-at.result c.requires (c.index-rows-at.is ∙ ap (λ bs. get_or bs c.args.at c.index-rows-at.result) c.rows.ensures.rows) b ∙ sym is in
    let room : true ≡ has_room F 1 = c.if-not-has_room.ensures in
    let row = c.check_job-row.ensures ∙ ap (check_job F.next) same in
    let added = c.in_ok-put.ensures.rows ∙ ap (put job_cmp F.jobs) row in
    let reserved = c.in_ok-reserve_board.ensures b is in
    let taken : seen c.reserve_board.new.self ≡ seen_at (record F {
      jobs = put job_cmp F.jobs (check_job F.next b);
      boards = change_where (λ (c : BoardRow). bytes_eq c.name b.name) (held_board (Holder.Job F.next) State.Reserved) F.boards;
    }) (seen T) =
    reserved.now
    ∙ (λ i. seen_at (record F { jobs = added i; boards = change_where (λ (c : BoardRow). bytes_eq c.name b.name) (held_board (Holder.Job F.next) State.Reserved) F.boards }) (seen T)) in
    let logs = lead_on_join _ _ _ (jobs_lead _ _ _ (lead_on_none T) c.in_ok-put.ensures.leads) reserved.logs in
    record {
      now = (λ i. seen_at (record (taken i).farm { next = F.next + 1 }) (taken i))
          ∙ ap (λ v. seen_at (cond v (record F {
            jobs = put job_cmp F.jobs (check_job F.next b);
            boards = change_where (λ (c : BoardRow). bytes_eq c.name b.name) (held_board (Holder.Job F.next) State.Reserved) F.boards;
            next = F.next + 1;
          }) F) (seen T)) room;
      logs = record { types = logs.types; boards = logs.boards; jobs = logs.jobs; reservations = logs.reservations; kept = logs.kept };
    }
