use Rattle.std.proofs.Common.{sym, ◌∙◌, arith}
use Rattle.farm_table.specs.Tabled.{by_key}
use Rattle.farm_table.proofs.Upto.{upto_none, upto_all, upto_long}
use Rattle.farm_table.proofs.Steps.{step_passes, step_fails, leads_none, leads_join}
use Rattle.farm_table.proofs.table.Table.change_between.Goals as goal
use Rattle.farm_table.proofs.table.Table.change_between.Goals.{then-passes_at+in_ok-change_at, else-passes_at}

pub loop-at-init : goal.loop-at-init
loop-at-init g c = record {
  rows = sym (upto_none (g.E.Edit.passes c.args.edit.now) (g.E.Edit.changed c.args.edit.now) c.args.start c.args.self.now.rows (λ k d low in_range. c.requires.before k d low));
  leads = leads_none (by_key g.R.Row.key g.R.Row.key_cmp) c.args.self.now;
}

pub passes_at-requires : goal.passes_at-requires
passes_at-requires g c = rw (c.loop-at.invariant.rows, upto_long (g.E.Edit.passes c.args.edit.now) (g.E.Edit.changed c.args.edit.now) c.loop-at.at c.args.self.now.rows) (omega arith)

pub change_at-requires-clause-within : goal.change_at-requires-clause-within
change_at-requires-clause-within g c = rw (c.loop-at.invariant.rows, upto_long (g.E.Edit.passes c.args.edit.now) (g.E.Edit.changed c.args.edit.now) c.loop-at.at c.args.self.now.rows) (omega arith)

pub loop-at-preserved : goal.loop-at-preserved
loop-at-preserved g c =
    elim c.if-passes_at.branch [
      | then-passes_at+in_ok-change_at w ↦ record {
        rows = rw w.self-is (step_passes (g.E.Edit.passes c.args.edit.now) (g.E.Edit.changed c.args.edit.now) c.loop-at.at c.args.self.now.rows c.loop-at.self.rows w.change_at.new.self.rows c.loop-at.invariant.rows (omega arith) w.if-passes_at.ensures w.in_ok-change_at.ensures.rows);
        leads = rw w.self-is (leads_join (by_key g.R.Row.key g.R.Row.key_cmp) _ _ _ c.loop-at.invariant.leads w.in_ok-change_at.ensures.leads);
      }
      | else-passes_at w ↦ record {
        rows = rw w.self-is (step_fails (g.E.Edit.passes c.args.edit.now) (g.E.Edit.changed c.args.edit.now) c.loop-at.at c.args.self.now.rows c.loop-at.self.rows c.loop-at.invariant.rows w.if-passes_at.ensures);
        leads = rw w.self-is c.loop-at.invariant.leads;
      }
    ]

pub returns-clause-rows : goal.returns-clause-rows
returns-clause-rows g c =
    c.loop-at.invariant.rows
    ∙ (upto_all (g.E.Edit.passes c.args.edit.now) (g.E.Edit.changed c.args.edit.now) c.loop-at.at c.args.self.now.rows (λ k d high in_range. c.requires.behind k d (omega arith) in_range))
