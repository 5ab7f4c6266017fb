use Rattle.std.proofs.Common.{rules}
use Rattle.farm_store.specs.Editions.{IsReadableJobIn, job_columns_in}
use Rattle.farm_store.proofs.ReadRows.{refuses_row}
use Rattle.farm_store.proofs.jobs.JobRowStored.of.Goals as goal

pub returns-in_err-job_state_at-clause-reads : goal.returns-in_err-job_state_at-clause-reads
returns-in_err-job_state_at-clause-reads c =
    let edition = c.args.reader.now.edition in
    refuses_row c.from_residual-in_err-job_state_at.result (IsReadableJobIn edition) (job_columns_in edition) c.args.row.now _ c.from_residual-in_err-job_state_at.ensures.1
    (λ x good is. c.in_err-job_state_at.ensures x.state good.state is.1.1.1.1.1.1.1.1.0)

pub returns-in_err-outcome_at-clause-reads : goal.returns-in_err-outcome_at-clause-reads
returns-in_err-outcome_at-clause-reads c =
    let edition = c.args.reader.now.edition in
    refuses_row c.from_residual-in_err-outcome_at.result (IsReadableJobIn edition) (job_columns_in edition) c.args.row.now _ c.from_residual-in_err-outcome_at.ensures.1
    (λ x good is. c.in_err-outcome_at.ensures x.outcome tt is.1.1.1.1.1.1.1.1.1.0)

pub returns-clause-reads : goal.returns-clause-reads
returns-clause-reads c = search (rules, c.in_ok-job_state_at.ensures)
