use Rattle.std.proofs.Common.{ap, sym, ◌∙◌}
use Rattle.farm_core.proofs.Names.{JobRow, option_map_or}
use Rattle.farm_types.specs.Names.{change_jobs, change_where, Farm, freed_board}
use Rattle.farm_core.specs.Came.{Seen}
use Rattle.farm_core.specs.Edits.{job_changed, job_passes}
use Rattle.farm_core.specs.Following.{without_claim}
use Rattle.farm_core.specs.Plain.{plain_farm}
use Rattle.farm_core.proofs.JobLemmas.{canceled}
use Rattle.farm_core.proofs.Steps.{jobs_lead, lead_on_join}
use Rattle.farm_core.proofs.tables.Tables.cancel.Goals as goal

pub returns : goal.returns
returns c =
    let found = sym c.in-Some.ensures.found in
    let ended = c.in_ok-edit_jobs_and_boards.ensures in
    let cleared = c.stop_collecting.ensures in
    let K : Farm = plain_farm c.stop_collecting.new.self in
    let logs = jobs_lead _ _ _ (lead_on_join _ _ _ ended.logs cleared.logs) c.in_ok-edit_jobs.ensures.leads in
    let queues = ap (λ (s : Seen). s.queues) cleared.now ∙ ap (λ (s : Seen). s.queues) ended.now in
    record {
      done = canceled (plain_farm c.args.self.now) (plain_farm c.edit_jobs_and_boards.new.self) K _ c.args.number c.in-Some.job.now found
          (ap (λ (s : Seen). s.farm) ended.now ∙ (λ i. change_jobs (job_passes (c.to_state-end.ensures i).jobs) (job_changed (c.to_state-end.ensures i)) freed_board (plain_farm c.args.self.now)))
          (ap (λ (s : Seen). s.farm) cleared.now)
          ((λ i. record K { jobs = c.in_ok-edit_jobs.ensures.rows i }) ∙ (λ i. record K { jobs = change_where (job_passes (c.to_state-stop.ensures i).jobs) (job_changed (c.to_state-stop.ensures i)) K.jobs }));
      queues = c.take_claim.ensures
          ∙ ap (without_claim c.in-Some.job.now.group) queues
          ∙ sym (ap (λ o. option_map_or (λ (j : JobRow). without_claim j.group c.args.self.now.queues) o c.args.self.now.queues) found);
      logs = record { types = logs.types; boards = logs.boards; jobs = logs.jobs; reservations = logs.reservations; kept = logs.kept };
    }
