use Rattle.std.proofs.Common.{◌∙◌, sym}
use Rattle.farm_core.proofs.Names.{IsFitJob, JobRow}
use Rattle.farm_core.specs.Edits.{job_passes}
use Rattle.farm_core.proofs.Windows.{none_so}
use Rattle.farm_core.proofs.job_table.passes.Goals as goal

pub returns-else-reaches : goal.returns-else-reaches
returns-else-reaches c =
    c.if-reaches.false ∙ sym (none_so (λ (r : JobRow). r.number) IsFitJob (job_passes c.args.filter.now) c.args.number c.args.jobs.now.rows c.rows-rows.ensures.fit
    (λ j fit is. c.reaches.ensures c.if-reaches.false j fit.near is))
