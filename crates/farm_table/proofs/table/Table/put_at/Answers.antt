use Rattle.std.proofs.Common.{◌∷◌, [], ◌++◌, length, sym, ap, subst, ◌∙◌}
use Rattle.std.specs.Cmp.{on_total}
use Rattle.std.specs.List.Sorted.{IsBinarySearchResult, IsSearchInRange}
use Rattle.farm_types.specs.Names.{put}
use Rattle.farm_table.specs.Tabled.{Tabled, by_key}
use Rattle.farm_table.proofs.Steps.{table_put, leads_put, put_found}
use Rattle.farm_table.proofs.table.Table.put_at.Goals as goal

pub invariant_of-self-2 : goal.invariant_of-self-2
invariant_of-self-2 g c =
    let is = put_found (by_key g.R.Row.key g.R.Row.key_cmp) (on_total g.R.Row.key g.met.R.Row.total) c.args.row c.self.inside.rows.items c.self.invariant.sorted c.args.place
    (subst (λ (t : Tabled _). IsSearchInRange c.args.place (length t.rows)) (sym c.self.view_is) c.requires.within)
    (subst (λ (t : Tabled _). IsBinarySearchResult (λ r. g.R.Row.key_cmp (g.R.Row.key r) (g.R.Row.key c.args.row)) t.rows c.args.place) (sym c.self.view_is) c.requires.searched) in
    rw (c.in_ok-put_in.ensures.rows ∙ is, c.push_reserved.ensures.items, c.in_ok-reserve.ensures.items)
    (table_put (by_key g.R.Row.key g.R.Row.key_cmp) (on_total g.R.Row.key g.met.R.Row.total) g.R.Row.Fits c.self.inside.rows.items c.self.inside.log.items c.args.row c.in_ok-copy.copy c.in_ok-copy.ensures c.requires.fits c.self.invariant)

pub returns-clause-rows : goal.returns-clause-rows
returns-clause-rows g c =
    c.in_ok-put_in.ensures.rows
    ∙ put_found (by_key g.R.Row.key g.R.Row.key_cmp) (on_total g.R.Row.key g.met.R.Row.total) c.args.row c.self.inside.rows.items c.self.invariant.sorted c.args.place
    (subst (λ (t : Tabled _). IsSearchInRange c.args.place (length t.rows)) (sym c.self.view_is) c.requires.within)
    (subst (λ (t : Tabled _). IsBinarySearchResult (λ r. g.R.Row.key_cmp (g.R.Row.key r) (g.R.Row.key c.args.row)) t.rows c.args.place) (sym c.self.view_is) c.requires.searched)
    ∙ ap (λ (t : Tabled _). put (by_key g.R.Row.key g.R.Row.key_cmp) t.rows c.args.row) c.self.view_is

pub returns-clause-leads : goal.returns-clause-leads
returns-clause-leads g c =
    let is = put_found (by_key g.R.Row.key g.R.Row.key_cmp) (on_total g.R.Row.key g.met.R.Row.total) c.args.row c.self.inside.rows.items c.self.invariant.sorted c.args.place
    (subst (λ (t : Tabled _). IsSearchInRange c.args.place (length t.rows)) (sym c.self.view_is) c.requires.within)
    (subst (λ (t : Tabled _). IsBinarySearchResult (λ r. g.R.Row.key_cmp (g.R.Row.key r) (g.R.Row.key c.args.row)) t.rows c.args.place) (sym c.self.view_is) c.requires.searched) in
    leads_put (by_key g.R.Row.key g.R.Row.key_cmp) (on_total g.R.Row.key g.met.R.Row.total) g.R.Row.Fits c.self.inside.rows.items c.self.inside.log.items c.args.row c.in_ok-copy.copy c.in_ok-copy.ensures _ _ (sym c.self.view_is)
    (λ i. record { rows = (c.in_ok-put_in.ensures.rows ∙ is) i; log = (c.push_reserved.ensures.items ∙ ap (λ l. l ++ c.in_ok-copy.copy ∷ []) c.in_ok-reserve.ensures.items) i })
