use Rattle.std.proofs.Common.{◌<◌, ◌∷◌, [], ◌++◌, length, set, sym, ap, ◌∙◌, subst}
use Rattle.std.specs.Cmp.{on_total}
use Rattle.farm_table.specs.Tabled.{Tabled, by_key}
use Rattle.farm_table.proofs.Steps.{table_set, leads_set, tied_by_key}
use Rattle.farm_table.proofs.table.Table.change_at.Goals as goal

pub invariant_of-self-2 : goal.invariant_of-self-2
invariant_of-self-2 g c =
    let low : c.args.at < length c.self.inside.rows.items = subst (λ (t : Tabled _). c.args.at < length t.rows) (sym c.self.view_is) c.requires.within in
    rw (c.push_reserved.ensures.items, c.in_ok-reserve.ensures.items)
    (table_set (by_key g.R.Row.key g.R.Row.key_cmp) (on_total g.R.Row.key g.met.R.Row.total) g.R.Row.Fits c.self.inside.rows.items c.self.inside.log.items c.self.invariant c.args.at low
    (g.E.Edit.changed c.args.edit.now) (tied_by_key g.R.Row.key g.R.Row.key_cmp g.met.R.Row.total (g.E.Edit.changed c.args.edit.now) c.requires.keeps.key) c.requires.keeps.fits
    c.index_mut.result.now c.index.result.now c.change-2.new.row c.change.new.row c.index_mut.ensures.value c.index.ensures c.change-2.ensures (c.change.ensures ∙ ap (g.E.Edit.changed c.args.edit.now) c.in_ok-changed.ensures))

pub returns-clause-leads : goal.returns-clause-leads
returns-clause-leads g c =
    let low : c.args.at < length c.self.inside.rows.items = subst (λ (t : Tabled _). c.args.at < length t.rows) (sym c.self.view_is) c.requires.within in
    leads_set (by_key g.R.Row.key g.R.Row.key_cmp) (on_total g.R.Row.key g.met.R.Row.total) g.R.Row.Fits c.self.inside.rows.items c.self.inside.log.items c.self.invariant c.args.at low
    (g.E.Edit.changed c.args.edit.now) (tied_by_key g.R.Row.key g.R.Row.key_cmp g.met.R.Row.total (g.E.Edit.changed c.args.edit.now) c.requires.keeps.key) c.requires.keeps.fits
    c.index_mut.result.now c.index.result.now c.change-2.new.row c.change.new.row c.index_mut.ensures.value c.index.ensures c.change-2.ensures (c.change.ensures ∙ ap (g.E.Edit.changed c.args.edit.now) c.in_ok-changed.ensures)
    _ _ (sym c.self.view_is) (λ i. record { rows = set c.self.inside.rows.items c.args.at c.change-2.new.row; log = (c.push_reserved.ensures.items ∙ ap (λ l. l ++ c.change.new.row ∷ []) c.in_ok-reserve.ensures.items) i })
