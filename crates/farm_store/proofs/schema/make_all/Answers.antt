use Rattle.std.proofs.Common.{sym, subst}
use Rattle.farm_store.proofs.Names.{on_ok_weaker, ShowsTables, state}
use Rattle.farm_store.proofs.Creates.{makes_all, tables_taken}
use Rattle.farm_store.proofs.GoingOn.{goes_on_then, was_clean}
use Rattle.farm_store.proofs.schema.make_all.Goals as goal

pub returns-clause-made : goal.returns-clause-made
returns-clause-made g c clean = on_ok_weaker c.run-6.result (λ ran inside has.
    let late5 = was_clean c.run-6.ensures.goes_on clean in
    let late4 = was_clean c.run-5.ensures.goes_on late5 in
    let late3 = was_clean c.run-4.ensures.goes_on late4 in
    let late2 = was_clean c.run-3.ensures.goes_on late3 in
    let late1 = was_clean c.run-2.ensures.goes_on late2 in
    let one = c.in_ok-run.ensures.ran late1 inside in
    let two = c.in_ok-run-2.ensures.ran late2 one.4 in
    let three = c.in_ok-run-3.ensures.ran late3 two.4 in
    let four = c.in_ok-run-4.ensures.ran late4 three.4 in
    let five = c.in_ok-run-5.ensures.ran late5 four.4 in
    let six = ran five.4 in
    makes_all (state g.S.Store c.args.tx.now.conn.now) (state g.S.Store c.run.new.tx.conn.now) (state g.S.Store c.run-2.new.tx.conn.now) (state g.S.Store c.run-3.new.tx.conn.now)
    (state g.S.Store c.run-4.new.tx.conn.now) (state g.S.Store c.run-5.new.tx.conn.now) (state g.S.Store c.run-6.new.tx.conn.now) has one two three four five six) (c.run-6.ensures.ran clean)

pub returns-in_err-run-2-clause-kept : goal.returns-in_err-run-2-clause-kept
returns-in_err-run-2-clause-kept g c clean T at =
    absurd (tables_taken (state g.S.Store c.args.tx.now.conn.now) (state g.S.Store c.run.new.tx.conn.now) T at (c.in_ok-run.ensures.ran (was_clean c.run-2.ensures.goes_on clean) at.inside))

pub returns-in_err-run-3-clause-kept : goal.returns-in_err-run-3-clause-kept
returns-in_err-run-3-clause-kept g c clean T at =
    absurd (tables_taken (state g.S.Store c.args.tx.now.conn.now) (state g.S.Store c.run.new.tx.conn.now) T at (c.in_ok-run.ensures.ran (was_clean c.run-2.ensures.goes_on (was_clean c.run-3.ensures.goes_on clean)) at.inside))

pub returns-in_err-run-4-clause-kept : goal.returns-in_err-run-4-clause-kept
returns-in_err-run-4-clause-kept g c clean T at =
    absurd (tables_taken (state g.S.Store c.args.tx.now.conn.now) (state g.S.Store c.run.new.tx.conn.now) T at (c.in_ok-run.ensures.ran (was_clean c.run-2.ensures.goes_on (was_clean c.run-3.ensures.goes_on (was_clean c.run-4.ensures.goes_on clean))) at.inside))

pub returns-in_err-run-5-clause-kept : goal.returns-in_err-run-5-clause-kept
returns-in_err-run-5-clause-kept g c clean T at =
    absurd (tables_taken (state g.S.Store c.args.tx.now.conn.now) (state g.S.Store c.run.new.tx.conn.now) T at (c.in_ok-run.ensures.ran (was_clean c.run-2.ensures.goes_on (was_clean c.run-3.ensures.goes_on (was_clean c.run-4.ensures.goes_on (was_clean c.run-5.ensures.goes_on clean)))) at.inside))

pub returns-in_err-run-clause-kept : goal.returns-in_err-run-clause-kept
returns-in_err-run-clause-kept g c clean T at shows still =
    let keeps = c.run.ensures.kept clean at.inside in
    subst (λ d. ShowsTables d T) (sym (keeps.committed still)) (shows (keeps.was_open still))

pub returns-clause-kept : goal.returns-clause-kept
returns-clause-kept g c clean T at =
    absurd (tables_taken (state g.S.Store c.args.tx.now.conn.now) (state g.S.Store c.run.new.tx.conn.now) T at (c.in_ok-run.ensures.ran (was_clean c.run-2.ensures.goes_on (was_clean c.run-3.ensures.goes_on (was_clean c.run-4.ensures.goes_on (was_clean c.run-5.ensures.goes_on (was_clean c.run-6.ensures.goes_on clean))))) at.inside))

pub returns-clause-refused : goal.returns-clause-refused
returns-clause-refused g c clean = on_ok_weaker c.run-6.result (λ _ T at.
    tables_taken (state g.S.Store c.args.tx.now.conn.now) (state g.S.Store c.run.new.tx.conn.now) T at (c.in_ok-run.ensures.ran (was_clean c.run-2.ensures.goes_on (was_clean c.run-3.ensures.goes_on (was_clean c.run-4.ensures.goes_on (was_clean c.run-5.ensures.goes_on (was_clean c.run-6.ensures.goes_on clean))))) at.inside)) (c.run-6.ensures.ran clean)

pub returns-in_err-run-5-clause-goes_on : goal.returns-in_err-run-5-clause-goes_on
returns-in_err-run-5-clause-goes_on g c = goes_on_then (goes_on_then (goes_on_then (goes_on_then c.run.ensures.goes_on c.run-2.ensures.goes_on) c.run-3.ensures.goes_on) c.run-4.ensures.goes_on) c.run-5.ensures.goes_on

pub returns-clause-goes_on : goal.returns-clause-goes_on
returns-clause-goes_on g c = goes_on_then (goes_on_then (goes_on_then (goes_on_then (goes_on_then c.run.ensures.goes_on c.run-2.ensures.goes_on) c.run-3.ensures.goes_on) c.run-4.ensures.goes_on) c.run-5.ensures.goes_on) c.run-6.ensures.goes_on
