use Rattle.std.proofs.Common.{◌∙◌, ap, rules, sym, ◌==◌}
use Rattle.farm_sound.proofs.Names.{always_returns_same, JobRow, nat_cmp, nat_cmp_total, Rows}
use Rattle.farm_types.proofs.Searched.{same_numbers}
use Rattle.farm_sound.proofs.Lookups.{row_found, none_found}
use Rattle.farm_sound.proofs.ordered.OrderedRows.job_of.Goals as goal

pub returns-in-Ok : goal.returns-in-Ok
returns-in-Ok c =
    row_found (λ (r : JobRow). r.number) nat_cmp nat_cmp_total (λ a b. a == b) same_numbers c.args.number _ c.as_slice-jobs.result.now (c.as_slice-jobs.ensures.value ∙ ap (λ (r : Rows). r.jobs.items) c.self.view_is)
    (rw (sym c.self.view_is) c.self.invariant.ordered.jobs) c.in-Ok.at c.in-Ok.ensures.bound
    (c.in-Ok.ensures.position (λ r. nat_cmp r.number c.args.number) (always_returns_same _ _ _ (λ a r f' called. search rules))) c.index-jobs-at.result c.index-jobs-at.is

pub returns-in-Err : goal.returns-in-Err
returns-in-Err c =
    none_found (λ (r : JobRow). r.number) nat_cmp nat_cmp_total (λ a b. a == b) same_numbers c.args.number _ c.as_slice-jobs.result.now (c.as_slice-jobs.ensures.value ∙ ap (λ (r : Rows). r.jobs.items) c.self.view_is)
    (rw (sym c.self.view_is) c.self.invariant.ordered.jobs) c.in-Err._gap c.in-Err.ensures.bound
    (c.in-Err.ensures.position (λ r. nat_cmp r.number c.args.number) (always_returns_same _ _ _ (λ a r f' called. search rules)))
