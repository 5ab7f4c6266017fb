use Rattle.std.proofs.Common.{[], refl, inr}
use Rattle.sqlite.specs.Held.{state}
use Rattle.sqlite.specs.Steps.{over_memory}
use Rattle.sqlite_trees.specs.View.{doubt}
use Rattle.farm_types.specs.Names.{empty_farm}
use Rattle.farm_sound.proofs.Numbers.{IsSound-empty}
use Rattle.farm_premises.proofs.MetLemmas.{if_some, left_empty}
use Rattle.farm_premises.proofs.keepers.stops_can_be_met.Goals as goal

pub returns-clause-stop : goal.returns-clause-stop
unfolding doubt
returns-clause-stop c = if_some c.reopened.result (λ conn opens. record {
  old = c.in-Ok-fresh.keeper;
  new = c.run-end.new.self;
  end = c.run-end.result;
  calls = [];
  keeps = c.in-Ok-fresh.ensures.keeps c.in-Ok.ensures.empty.2;
  was_open = c.in-Ok-fresh.ensures.opened.0;
  runs = c.run-end.ensures;
  clean = refl;
  left = (state over_memory c.run-end.new.self.conn).committed.trees;
  may = refl;
  opens = opens;
}) c.reopened.ensures.opens

pub returns-clause-opens : goal.returns-clause-opens
unfolding doubt
returns-clause-opens c = if_some c.reopened.result (λ conn opens. record {
  left = (state over_memory c.run-end.new.self.conn).committed.trees;
  holds = left_empty over_memory c.in-Ok-fresh.keeper c.run-end.new.self c.run-end.result _ (c.in-Ok-fresh.ensures.keeps c.in-Ok.ensures.empty.2) c.in-Ok-fresh.ensures.opened.1 c.run-end.ensures refl refl;
  opens = opens;
}) c.reopened.ensures.opens

pub returns-clause-upgrade : goal.returns-clause-upgrade
unfolding doubt
returns-clause-upgrade c = if_some c.reopened.result (λ conn opens. record {
  farm = empty_farm;
  sound = record { sound = IsSound-empty; none = refl };
  left = (state over_memory c.run-end.new.self.conn).committed.trees;
  holds = inr (left_empty over_memory c.in-Ok-fresh.keeper c.run-end.new.self c.run-end.result _ (c.in-Ok-fresh.ensures.keeps c.in-Ok.ensures.empty.2) c.in-Ok-fresh.ensures.opened.1 c.run-end.ensures refl refl);
  opens = opens;
}) c.reopened.ensures.opens
