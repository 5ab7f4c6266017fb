use Rattle.std.proofs.Common.{sym, subst}
use Rattle.farm_serve.proofs.Names.{gives_farm, Holds, IsSound-run, rows_of, state, Trees}
use Rattle.farm_types.specs.Names.{run}
use Rattle.farm_serve.proofs.StopLemmas.{served_left}
use Rattle.farm_serve.proofs.laws.found_after_serving.Goals as goal

pub returns : goal.returns
returns g c = λ clean connections old new sound keeps served clean_new left may on.
    let it = served_left g.S.Store g.K.Reader.Input.never_fails connections old new left served keeps clean_new may in
    let F = run old.farm.farm it.done in
    let at = c.opened_stands.ensures on.opens on.live (rows_of F) (subst (λ (t : Trees). Holds t (rows_of F)) (sym on.on) it.holds) in
    let finds = c.found.ensures.finds clean in
    record {
      done = it.done;
      does = it.does;
      gives = gives_farm c.found.result (state g.S.Store c.args.conn.now) F (IsSound-run it.done old.farm.farm sound) at finds.exact finds.bad finds.old c.found.ensures.fault;
    }
