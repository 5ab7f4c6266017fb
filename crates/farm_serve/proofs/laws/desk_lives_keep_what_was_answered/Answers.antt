use Rattle.std.proofs.Common.{sym, subst}
use Rattle.farm_serve.proofs.Names.{gives_farm, Holds, IsSound-run, rows_of, state, Trees}
use Rattle.farm_store.proofs.Listed.{opened_stands}
use Rattle.farm_types.specs.Names.{run}
use Rattle.farm_keep.proofs.LifeLemmas.{StandsOpened}
use Rattle.farm_serve.proofs.DeskLifeLemmas.{desk_lives}
use Rattle.farm_serve.proofs.laws.desk_lives_keep_what_was_answered.Goals as goal

pub returns : goal.returns
returns g c = λ clean F lives first last sound holds lived on.
    let stands : StandsOpened g.S.Store = λ h opens live T there.
    opened_stands (state g.S.Store h) opens live (λ db may. g.met.S.Store.settled h.store db opens.is_open may) T there in
    let it = desk_lives g.S.Store g.K.Reader.Input.never_fails stands lives first last F sound holds lived in
    let G = run F it.done in
    let at = c.opened_stands.ensures on.opens on.live (rows_of G) (subst (λ (t : Trees). Holds t (rows_of G)) (sym on.on) it.holds) in
    let finds = c.found.ensures.finds clean in
    record {
      done = it.done;
      does = it.does;
      gives = gives_farm c.found.result (state g.S.Store c.args.conn.now) G (IsSound-run it.done F sound) at finds.exact finds.bad finds.old c.found.ensures.fault;
    }
