use Rattle.std.proofs.Common.{sym, subst}
use Rattle.sqlite.specs.Held.{state}
use Rattle.sqlite.specs.Tree.{Trees}
use Rattle.farm_store.specs.Columns.{rows_of}
use Rattle.farm_store.specs.Holds.{Holds}
use Rattle.farm_store.proofs.Listed.{opened_stands}
use Rattle.farm_types.specs.Names.{run}
use Rattle.farm_keep.specs.Restarts.{calls_of_restarts}
use Rattle.farm_keep.proofs.LifeLemmas.{StandsOpened, all_lives, gives_farm}
use Rattle.farm_keep.proofs.laws.restarts_find_a_prefix.Goals as goal

pub returns : goal.returns
returns g c = λ clean F lives first last sound holds lived on.
    let stands : StandsOpened g.S.Store = λ h opens live T there.
    opened_stands (state g.S.Store h) opens live (λ db may. g.met.S.Store.settled h.store db opens.is_open may) T there in
    let it = all_lives g.S.Store stands lives first last F sound holds lived in
    let G = run F (calls_of_restarts it.restarts) in
    let at = c.opened_stands.ensures on.opens on.live (rows_of G) (subst (λ (t : Trees). Holds t (rows_of G)) (sym on.on) it.holds) in
    let finds = c.found.ensures.finds clean in
    record {
      restarts = it.restarts;
      each = it.each;
      gives = gives_farm c.found.result (state g.S.Store c.args.conn.now) G it.sound at finds.exact finds.bad finds.old c.found.ensures.fault;
    }
