use Rattle.std.proofs.lemmas.Result.{on_ok_weaker}
use Rattle.sqlite.specs.Held.{state}
use Rattle.farm_store.proofs.Creates.{makes_all}
use Rattle.farm_store.proofs.GoingOn.{goes_on_then, was_clean}
use Rattle.farm_premises.proofs.first_edition.make_all.Goals as goal

pub returns-clause-made : goal.returns-clause-made
returns-clause-made g c clean = on_ok_weaker c.make-6.result (λ ran inside has.
    let late5 = was_clean c.make-6.ensures.goes_on clean in
    let late4 = was_clean c.make-5.ensures.goes_on late5 in
    let late3 = was_clean c.make-4.ensures.goes_on late4 in
    let late2 = was_clean c.make-3.ensures.goes_on late3 in
    let late1 = was_clean c.make-2.ensures.goes_on late2 in
    let one = c.in_ok-make.ensures.ran late1 inside in
    let two = c.in_ok-make-2.ensures.ran late2 one.4 in
    let three = c.in_ok-make-3.ensures.ran late3 two.4 in
    let four = c.in_ok-make-4.ensures.ran late4 three.4 in
    let five = c.in_ok-make-5.ensures.ran late5 four.4 in
    let six = ran five.4 in
    makes_all (state g.S.Store c.args.tx.now.conn.now) (state g.S.Store c.make.new.tx.conn.now) (state g.S.Store c.make-2.new.tx.conn.now) (state g.S.Store c.make-3.new.tx.conn.now)
    (state g.S.Store c.make-4.new.tx.conn.now) (state g.S.Store c.make-5.new.tx.conn.now) (state g.S.Store c.make-6.new.tx.conn.now) has one two three four five six) (c.make-6.ensures.ran clean)

pub returns-in_err-make-5-clause-goes_on : goal.returns-in_err-make-5-clause-goes_on
returns-in_err-make-5-clause-goes_on g c = goes_on_then (goes_on_then (goes_on_then (goes_on_then c.make.ensures.goes_on c.make-2.ensures.goes_on) c.make-3.ensures.goes_on) c.make-4.ensures.goes_on) c.make-5.ensures.goes_on

pub returns-clause-goes_on : goal.returns-clause-goes_on
returns-clause-goes_on g c = goes_on_then (goes_on_then (goes_on_then (goes_on_then (goes_on_then c.make.ensures.goes_on c.make-2.ensures.goes_on) c.make-3.ensures.goes_on) c.make-4.ensures.goes_on) c.make-5.ensures.goes_on) c.make-6.ensures.goes_on
