use Rattle.std.proofs.Common.{[], refl}
use Rattle.sqlite.specs.Held.{state}
use Rattle.sqlite.specs.Steps.{over_memory}
use Rattle.sqlite_trees.specs.View.{doubt}
use Rattle.farm_types.specs.Names.{empty_farm}
use Rattle.farm_sound.proofs.Numbers.{IsSound-empty}
use Rattle.farm_keep.specs.Lives.{Life}
use Rattle.farm_premises.proofs.MetLemmas.{if_some}
use Rattle.farm_premises.proofs.keepers.lives_can_be_met.Goals as goal

pub returns : goal.returns
unfolding doubt
returns c =
    let on = c.in_ok-conn.ensures.opens in
    let last = (state over_memory c.in-Ok.keeper.conn).committed.trees in
    if_some c.reopened.result (λ conn opens. record {
      farm = empty_farm;
      life = Life.Ran c.in_ok-conn.conn c.in-Ok.keeper c.in-Ok._end [];
      first = on.left;
      last = last;
      sound = IsSound-empty;
      holds = on.holds;
      lived = (last, record { opens = on.opens; resumes = c.in-Ok.ensures.resumed; clean = refl; left = refl }, refl);
      opens = opens;
    }) c.reopened.ensures.opens
