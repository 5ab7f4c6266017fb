use Rattle.std.proofs.Common.{◌≡◌, ◌≤◌, ◌==◌, length, ap, arith}
use Rattle.farm_types.specs.declared.rows.JobRow.{JobRow}
use Rattle.farm_core.specs.declared.edits.JobFilter.{JobFilter}
use Rattle.farm_core.proofs.Windows.{no_member, none_before}
use Rattle.farm_core.proofs.JobLemmas.{filter_between}
use Rattle.farm_core.proofs.tables.Tables.member_rows.Goals as goal

pub returns-clause-members : goal.returns-clause-members
returns-clause-members c =
    let jobs = c.args.self.now.jobs.rows in
    let low : c.place_of-start.result ≤ length jobs = c.place_of-start.ensures.within in
    let same : length c.rows-rows.result.now ≡ length jobs = ap length c.rows-rows.ensures.rows in
    rw c.rows-rows.ensures.rows (filter_between (λ (j : JobRow). j.group == c.args.group) c.place_of-start.result c.min-end.result jobs
    (omega (arith, c.min-end.ensures, same, c.saturating_add.ensures, low))
    (omega (arith, c.min-end.ensures, same))
    (none_before jobs (JobFilter.Members c.args.group) c.rows-rows.ensures.fit c.place_of-start.result c.place_of-start.ensures.within c.place_of-start.ensures.place)
    (λ k d far here. no_member jobs c.rows-rows.ensures.fit c.args.group c.place_of-start.result c.rows-rows.ensures.sorted c.place_of-start.ensures.place k d
    (omega (arith, c.min-end.ensures, same, c.saturating_add.ensures, far, here)) here))
