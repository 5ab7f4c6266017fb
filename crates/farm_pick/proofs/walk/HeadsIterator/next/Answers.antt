use Rattle.std.proofs.Common.{◌∙◌, ◌+◌, ap, arith, length, sym}
use Rattle.std.specs.List.{cons_option}
use Rattle.farm_pick.specs.Heads.{heads_from}
use Rattle.farm_pick.proofs.Headed.{heads_on}
use Rattle.farm_pick.proofs.walk.HeadsIterator.next.Goals as goal

pub returns-in-Some-clause-steps : goal.returns-in-Some-clause-steps
returns-in-Some-clause-steps c =
    let now = c.loop-self.self-inside in
    sym c.self.view_is ∙ sym c.loop-self.invariant.shows
    ∙ heads_on now.index.now.kinds.items now.index.now.claims.entries now.index.now.idle.items now.all now.last now.queue (omega arith)
    ∙ ap (λ o. cons_option o (heads_from now.index.now.kinds.items now.index.now.claims.entries now.index.now.idle.items now.all now.last (now.queue + 1))) (sym c.in-Some.ensures)

pub returns-in-Some-clause-goes : goal.returns-in-Some-clause-goes
returns-in-Some-clause-goes c = record {
  on = λ finite. (tt, tt, omega (arith, ap length (returns-in-Some-clause-steps c)));
  keeps = tt;
  rests = λ finite. tt;
}
