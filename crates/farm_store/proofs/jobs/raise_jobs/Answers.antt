use Rattle.std.proofs.Common.{◌<◌, length, sym, subst, arith, rules}
use Rattle.farm_store.proofs.Names.{Edition, GoesOn, HasCleanDisk, IsInside, IsSmall, IsSmallJob, on_ok_weaker, raised_below, state, TableRows}
use Rattle.farm_store.proofs.Names.{tables_with_jobs}
use Rattle.sqlite_trees.proofs.ListLemmas.{all-get_or}
use Rattle.farm_store.proofs.GoingOn.{goes_on_then, was_clean}
use Rattle.farm_store.proofs.RaisesJobs.{all_raised, none_raised}
use Rattle.farm_store.proofs.jobs.raise_jobs.Goals as goal
use Rattle.farm_store.proofs.jobs.raise_jobs.Goals.{then-at-eq0+then-from-row+in_ok-raise_window, else-at-eq0}

pub loop-at-init : goal.loop-at-init
loop-at-init g c = record {
  goes_on = search rules;
  small = omega arith;
  raised = λ clean T at. subst (λ rows. IsInside (state g.S.Store c.args.tx.now.conn.now) (record T { jobs = rows })) (sym (none_raised c.args.rows.now)) at;
}

pub loop-at-preserved : goal.loop-at-preserved
loop-at-preserved g c =
    let old = c.loop-at.invariant in
    let before = state g.S.Store c.args.tx.now.conn.now in
    let jobs = c.args.rows.now in
    let low : c.loop-at.at < length jobs = omega arith in
    let row : IsSmallJob c.index-rows-at.result = subst IsSmallJob (sym c.index-rows-at.is) (all-get_or IsSmallJob jobs c.loop-at.at c.index-rows-at.result c.requires.small low) in
    elim c.if-at-eq0.branch [
      | then-at-eq0+then-from-row+in_ok-raise_window w ↦ record {
        goes_on = subst (λ tx. GoesOn g.S.Store c.args.tx.now tx) (sym w.tx-is) (goes_on_then old.goes_on w.raise_window.ensures.goes_on);
        small = subst IsSmall (sym w.from-is) row.number;
        raised = subst (λ tx. HasCleanDisk (state g.S.Store tx.conn.now) → (T : TableRows) → IsInside before (tables_with_jobs Edition.First jobs T) → IsInside (state g.S.Store tx.conn.now) (raised_below c.if-at-eq0.from jobs T)) (sym w.tx-is)
            (subst (λ from. HasCleanDisk (state g.S.Store w.raise_window.new.tx.conn.now) → (T : TableRows) → IsInside before (tables_with_jobs Edition.First jobs T) → IsInside (state g.S.Store w.raise_window.new.tx.conn.now) (raised_below from jobs T)) (sym w.from-is)
            (λ clean T at. w.in_ok-raise_window.ensures.raised clean T jobs (old.raised (was_clean w.raise_window.ensures.goes_on clean) T at)));
      }
      | else-at-eq0 w ↦ record {
        goes_on = subst (λ tx. GoesOn g.S.Store c.args.tx.now tx) (sym w.tx-is) old.goes_on;
        small = subst IsSmall (sym w.from-is) old.small;
        raised = subst (λ tx. HasCleanDisk (state g.S.Store tx.conn.now) → (T : TableRows) → IsInside before (tables_with_jobs Edition.First jobs T) → IsInside (state g.S.Store tx.conn.now) (raised_below c.if-at-eq0.from jobs T)) (sym w.tx-is)
            (subst (λ from. HasCleanDisk (state g.S.Store c.loop-at.tx.conn.now) → (T : TableRows) → IsInside before (tables_with_jobs Edition.First jobs T) → IsInside (state g.S.Store c.loop-at.tx.conn.now) (raised_below from jobs T)) (sym w.from-is) old.raised);
      }
    ]

pub returns-clause-raised : goal.returns-clause-raised
returns-clause-raised g c clean = on_ok_weaker c.raise_window-2.result (λ raises T at.
    let early = was_clean c.raise_window-2.ensures.goes_on clean in
    let before = c.loop-at.invariant.raised early T at in
    let after = raises T c.args.rows.now before in
    subst (λ rows. IsInside (state g.S.Store c.raise_window-2.new.tx.conn.now) (record T { jobs = rows })) (all_raised c.args.rows.now c.requires.small) after) (c.raise_window-2.ensures.raised clean)
