use Rattle.std.proofs.Common.{rules, ◌∙◌, ap, subst}
use Rattle.std.specs.List.{find}
use Rattle.std.specs.List.Sorted.{IsBinarySearchResult}
use Rattle.std.proofs.lemmas.Fn.{always_returns_same}
use Rattle.farm_table.specs.Tabled.{Tabled, IsFoundAt}
use Rattle.farm_table.proofs.Steps.{found_place}
use Rattle.farm_table.proofs.table.Table.place_of.Goals as goal

pub returns-clause-place : goal.returns-clause-place
returns-clause-place g c =
    subst (λ rows. IsFoundAt rows (find (λ r. g.R.Row.same (g.R.Row.key r) c.args.key.now) rows) c.binary_search_by.result)
    (c.deref.ensures.value ∙ ap (λ (t : Tabled _). t.rows) c.self.view_is)
    (found_place g.R.Row.key g.R.Row.key_cmp g.met.R.Row.total g.R.Row.same g.met.R.Row.ties c.args.key.now c.deref.result.now (rw c.deref.ensures.value c.self.invariant.sorted) c.binary_search_by.result c.binary_search_by.ensures.bound
    (c.binary_search_by.ensures.position (λ r. g.R.Row.key_cmp (g.R.Row.key r) c.args.key.now) (always_returns_same _ _ _ (λ a r f' called. search rules))))

pub returns-clause-searched : goal.returns-clause-searched
returns-clause-searched g c =
    subst (λ rows. IsBinarySearchResult (λ r. g.R.Row.key_cmp (g.R.Row.key r) c.args.key.now) rows c.binary_search_by.result)
    (c.deref.ensures.value ∙ ap (λ (t : Tabled _). t.rows) c.self.view_is)
    (c.binary_search_by.ensures.position (λ r. g.R.Row.key_cmp (g.R.Row.key r) c.args.key.now) (always_returns_same _ _ _ (λ a r f' called. search rules)))
