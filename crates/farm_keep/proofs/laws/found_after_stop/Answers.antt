use Rattle.std.proofs.Common.{take, sym, subst}
use Rattle.sqlite.specs.Held.{state}
use Rattle.sqlite.specs.Tree.{Trees}
use Rattle.farm_store.specs.Columns.{rows_of}
use Rattle.farm_store.specs.Holds.{Holds}
use Rattle.farm_types.specs.Names.{run}
use Rattle.farm_keep.proofs.LifeLemmas.{gives_farm, left_run}
use Rattle.farm_keep.proofs.laws.found_after_stop.Goals as goal

pub returns : goal.returns
returns g c = λ clean old new end calls keeps opened runs clean_new left may on.
    let it = left_run g.S.Store new end old.farm.farm calls left (runs.left keeps) clean_new may in
    let F = run old.farm.farm (take it.done calls) in
    let at = c.opened_stands.ensures on.opens on.live (rows_of F) (subst (λ (t : Trees). Holds t (rows_of F)) (sym on.on) it.holds) in
    let finds = c.found.ensures.finds clean in
    record {
      done = it.done;
      counts = it.counts;
      gives = gives_farm c.found.result (state g.S.Store c.args.conn.now) F (runs.sound opened it.done) at finds.exact finds.bad finds.old c.found.ensures.fault;
    }
