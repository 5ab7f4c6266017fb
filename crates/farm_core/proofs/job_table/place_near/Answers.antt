use Rattle.std.proofs.Common.{Ok, Err, length, ap, arith}
use Rattle.farm_types.specs.declared.rows.JobRow.{JobRow}
use Rattle.farm_core.proofs.Windows.{placed_at, searched}
use Rattle.farm_core.proofs.job_table.place_near.Goals as goal

pub returns-then-row-number-clause-place : goal.returns-then-row-number-clause-place
returns-then-row-number-clause-place c =
    let h = c.in-Some.ensures.lookup in
    let same = ap length c.rows-rows.ensures.rows in
    placed_at (λ (r : JobRow). r.number) c.args.jobs.now.rows c.args.number c.loop-place.place c.in-Some.row.now
    c.rows-rows.ensures.sorted (omega (arith, same)) (rw (← c.rows-rows.ensures.rows) h.1) c.if-row-number.true

pub returns-in-Ok-clause-place : goal.returns-in-Ok-clause-place
returns-in-Ok-clause-place c = searched (λ (r : JobRow). r.number) c.args.jobs.now.rows c.args.number c.in-Ok.ensures.sorted (Ok c.in-Ok.at) c.in-Ok.ensures.within c.in-Ok.ensures.searched

pub returns-in-Err-clause-place : goal.returns-in-Err-clause-place
returns-in-Err-clause-place c = searched (λ (r : JobRow). r.number) c.args.jobs.now.rows c.args.number c.in-Err.ensures.sorted (Err c.in-Err.at) c.in-Err.ensures.within c.in-Err.ensures.searched
