use Rattle.std.proofs.Common.{◌≡◌, ◌==◌, get_or, ap, sym, ◌∙◌}
use Rattle.farm_core.proofs.Names.{BoardRow, bytes_eq, Holder, JobRow, State}
use Rattle.std.proofs.lemmas.List.{get_or_read}
use Rattle.farm_types.specs.Names.{change_where, Farm, held_board, placed_job}
use Rattle.farm_core.specs.Came.{seen, seen_at}
use Rattle.farm_core.specs.Plain.{plain_farm}
use Rattle.farm_core.proofs.Steps.{jobs_lead, lead_on_join, lead_on_none}
use Rattle.farm_core.proofs.tables.Tables.assign_job.Goals as goal

pub returns : goal.returns
returns c = λ b is.
    let T = c.args.self.now in
    let F : Farm = plain_farm T in
    let same : c.index-rows-at.result ≡ b =
    get_or_read T.boards.rows c.args.at c.index-rows-at.result c.requires.within (c.index-rows-at.is ∙ ap (λ bs. get_or bs c.args.at c.index-rows-at.result) c.rows.ensures.rows) b ∙ sym is in
    let read : get_or c.rows.result.now c.args.at c.index-rows-at.result ≡ b = sym c.index-rows-at.is ∙ same in
    let reserved = c.in_ok-reserve_board.ensures b is in
    let boards = change_where (λ (c : BoardRow). bytes_eq c.name b.name) (held_board (Holder.Job c.args.number) State.Reserved) F.boards in
    record {
      now = reserved.now
          ∙ (λ i. seen_at (record F { jobs = c.in_ok-edit_jobs.ensures.rows i; boards = boards }) (seen T))
          ∙ (λ i. seen_at (record F { jobs = change_where (λ (r : JobRow). r.number == c.args.number) (placed_job c.args.state (read i).name) F.jobs; boards = boards }) (seen T));
      logs = lead_on_join _ _ _ (jobs_lead _ _ _ (lead_on_none T) c.in_ok-edit_jobs.ensures.leads) reserved.logs;
    }
