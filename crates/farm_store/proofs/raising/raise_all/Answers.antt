use Rattle.std.proofs.Common.{sym, subst}
use Rattle.farm_store.proofs.Names.{Edition, farm_of, IsInside, state, tables_with_jobs}
use Rattle.sqlite_rules.proofs.ViewLemmas.{on_ok_both}
use Rattle.farm_store.specs.Columns.{first_rows_of}
use Rattle.farm_store.proofs.GoingOn.{was_clean}
use Rattle.farm_store.proofs.Raised.{first_is, raised}
use Rattle.farm_store.proofs.raising.raise_all.Goals as goal

pub returns-clause-raised : goal.returns-clause-raised
returns-clause-raised g c clean = on_ok_both c.put_number-2.result (λ put opened at.
    let F = farm_of c.args.rows.now in
    let second = was_clean c.put_number-2.ensures.goes_on clean in
    let first = was_clean c.put_number.ensures.goes_on second in
    let was : IsInside (state g.S.Store c.args.tx.now.conn.now) (tables_with_jobs Edition.First F.jobs (first_rows_of F)) = subst (IsInside (state g.S.Store c.args.tx.now.conn.now)) (first_is F) at in
    let lent : IsInside (state g.S.Store c.args.tx.now.conn.now) (tables_with_jobs Edition.First c.deref.result.now (first_rows_of F)) = subst (λ jobs. IsInside (state g.S.Store c.args.tx.now.conn.now) (tables_with_jobs Edition.First jobs (first_rows_of F))) (sym c.deref.ensures.value) was in
    let one = subst (λ jobs. IsInside (state g.S.Store c.raise_jobs.new.tx.conn.now) (tables_with_jobs Edition.Second jobs (first_rows_of F))) c.deref.ensures.value (c.in_ok-raise_jobs.ensures.raised first (first_rows_of F) lent) in
    let two = c.in_ok-put_number.ensures.put second _ one in
    let three = put _ two in
    let still = opened two.inside in
    (subst (IsInside (state g.S.Store c.put_number-2.new.tx.conn.now)) (raised F c.requires.none) three, still.1)) (c.put_number-2.ensures.put clean) (c.put_number-2.ensures.stays_open clean)
