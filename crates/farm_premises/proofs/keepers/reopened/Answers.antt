use Rattle.std.proofs.Common.{refl, sym, ap, ◌∙◌}
use Rattle.sqlite.specs.Held.{Held, state}
use Rattle.sqlite.specs.Steps.{over_memory}
use Rattle.sqlite_trees.specs.View.{doubt}
use Rattle.farm_premises.proofs.keepers.reopened.Goals as goal

pub returns-in-Ok-clause-opens : goal.returns-in-Ok-clause-opens
unfolding doubt
returns-in-Ok-clause-opens c =
    let at = c.in-Ok.ensures.opens refl in
    record {
      opens = at.0;
      live = at.1;
      on = sym (ap (λ db. db.trees) at.0.clean) ∙ (c.in-Ok.ensures.trees refl ∙ ((c.into_store.ensures.undone.undone refl).0
          ∙ ap (λ (h : Held _). (state over_memory h).committed.trees) c.into_connection.ensures.conn));
    }
