use Rattle.std.proofs.Common.{sym, subst}
use Rattle.farm_serve.proofs.Names.{gives_farm, Holds, IsSound-run, rows_of, state, Trees}
use Rattle.farm_types.specs.Names.{run}
use Rattle.farm_keep.specs.Lives.{GivesFarm}
use Rattle.farm_serve.proofs.StopLemmas.{import_given}
use Rattle.farm_serve.proofs.laws.found_after_import.Goals as goal

pub returns : goal.returns
returns g c = λ clean old new text now end sound keeps imports clean_new left may on.
    let finds = c.found.ensures.finds clean in
    import_given g.S.Store old new text now end end.fault (GivesFarm c.found.result) left imports keeps clean_new may
    (λ done holds.
    let F = run old.farm.farm done in
    let at = c.opened_stands.ensures on.opens on.live (rows_of F) (subst (λ (t : Trees). Holds t (rows_of F)) (sym on.on) holds) in
    gives_farm c.found.result (state g.S.Store c.args.conn.now) F (IsSound-run done old.farm.farm sound) at finds.exact finds.bad finds.old c.found.ensures.fault)
