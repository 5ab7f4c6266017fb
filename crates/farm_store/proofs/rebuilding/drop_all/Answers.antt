use Rattle.farm_store.proofs.Names.{on_ok_weaker, state}
use Rattle.farm_store.proofs.Drops.{drops_all}
use Rattle.farm_store.proofs.GoingOn.{was_clean}
use Rattle.farm_store.proofs.rebuilding.drop_all.Goals as goal

pub returns-clause-dropped : goal.returns-clause-dropped
returns-clause-dropped g c clean = on_ok_weaker c.run-6.result (λ ran inside has.
    let late5 = was_clean c.run-6.ensures.goes_on clean in
    let late4 = was_clean c.run-5.ensures.goes_on late5 in
    let late3 = was_clean c.run-4.ensures.goes_on late4 in
    let late2 = was_clean c.run-3.ensures.goes_on late3 in
    let late1 = was_clean c.run-2.ensures.goes_on late2 in
    let one = c.in_ok-run.ensures.ran late1 inside in
    let two = c.in_ok-run-2.ensures.ran late2 one.4 in
    let three = c.in_ok-run-3.ensures.ran late3 two.4 in
    let four = c.in_ok-run-4.ensures.ran late4 three.4 in
    let five = c.in_ok-run-5.ensures.ran late5 four.4 in
    let six = ran five.4 in (
      six.4,
      drops_all (state g.S.Store c.args.tx.now.conn.now) (state g.S.Store c.run.new.tx.conn.now) (state g.S.Store c.run-2.new.tx.conn.now) (state g.S.Store c.run-3.new.tx.conn.now)
          (state g.S.Store c.run-4.new.tx.conn.now) (state g.S.Store c.run-5.new.tx.conn.now) (state g.S.Store c.run-6.new.tx.conn.now) (has one.2) one two three four five six,
    )) (c.run-6.ensures.ran clean)
