use Rattle.std.proofs.Common.{refl, arith}
use Rattle.sqlite.specs.Held.{state}
use Rattle.sqlite.specs.Steps.{over_memory}
use Rattle.sqlite_trees.specs.View.{doubt}
use Rattle.farm_premises.proofs.MetLemmas.{if_some}
use Rattle.farm_premises.proofs.desks.imports_can_be_met.Goals as goal

pub returns : goal.returns
unfolding doubt
returns c =
    let made = c.in_ok-keeper.ensures in
    let new = c.import.new.keeper in
    if_some c.reopened.result (λ conn opens. record {
      old = c.in_ok-keeper.keeper;
      new = new;
      text = _;
      now = _;
      end = c.import.result;
      accepted = omega arith;
      sound = made.adopts.sound;
      keeps = made.keeps;
      imports = c.import.ensures.import;
      clean = refl;
      left = (state over_memory new.conn).committed.trees;
      may = refl;
      opens = opens;
    }) c.reopened.ensures.opens
