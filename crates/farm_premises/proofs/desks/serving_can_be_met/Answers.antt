use Rattle.std.proofs.Common.{IsOk, refl, arith, rules}
use Rattle.sqlite.specs.Held.{state}
use Rattle.sqlite.specs.Steps.{over_memory}
use Rattle.sqlite_trees.specs.View.{doubt}
use Rattle.farm_types.specs.Names.{empty_farm}
use Rattle.farm_sound.proofs.Numbers.{IsSound-empty}
use Rattle.farm_serve.specs.DeskLives.{DeskLife}
use Rattle.farm_premises.proofs.MetLemmas.{if_some, one_served}
use Rattle.farm_premises.proofs.desks.serving_can_be_met.Goals as goal

pub returns-clause-served : goal.returns-clause-served
unfolding doubt
returns-clause-served c =
    let made = c.in_ok-keeper.ensures in
    let old = c.in_ok-keeper.keeper in
    let new = c.serve_in_memory.new.keeper in
    let turn = c.serve_in_memory.ensures.connections in
    let ok : IsOk c.serve_in_memory.result = search rules in
    if_some c.reopened.result (λ conn opens. record {
      old = old;
      new = new;
      connections = turn.connections;
      one = one_served turn.connections _ _ c.in_ok-clients.ensures turn.clients.0 (turn.all ok);
      sound = made.adopts.sound;
      keeps = made.keeps;
      served = turn.in_turn;
      clean = refl;
      left = (state over_memory new.conn).committed.trees;
      may = refl;
      opens = opens;
    }) c.reopened.ensures.opens

pub returns-clause-lives : goal.returns-clause-lives
unfolding doubt
returns-clause-lives c =
    let made = c.in_ok-keeper.ensures in
    let old = c.in_ok-keeper.keeper in
    let new = c.serve_in_memory.new.keeper in
    let turn = c.serve_in_memory.ensures.connections in
    let last = (state over_memory new.conn).committed.trees in
    if_some c.reopened.result (λ conn opens. record {
      farm = empty_farm;
      life = DeskLife.Served made.conn old new turn.connections;
      first = made.on.left;
      last = last;
      sound = IsSound-empty;
      holds = made.on.holds;
      lived = (last, record { opens = made.on.opens; adopts = made.adopts; serves = turn.in_turn; doubted = omega arith; clean = refl; left = refl }, refl);
      opens = opens;
    }) c.reopened.ensures.opens
