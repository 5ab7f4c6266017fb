use Rattle.std.proofs.Common.{◌≡◌, Some, get_or, refl, ap, arith, length, sym, subst, ◌∙◌}
use Rattle.farm_pick.proofs.Walking.{lends_on, taken_there, walk_none, walks_on}
use Rattle.farm_pick.proofs.walk.WalkIterator.next.Goals as goal

pub returns-in_err-queue-clause-steps : goal.returns-in_err-queue-clause-steps
returns-in_err-queue-clause-steps c =
    let now = c.self.inside in
    let none = sym c.self.view_is
    ∙ walk_none now.index.now.kinds.items now.index.now.claims.entries now.index.now.idle.items now.last now.cursors.items c.deref.result.now c.deref.ensures.value c.self.invariant c.in_err-queue.ensures in
    rw c.from_residual.ensures (none, none)

pub invariant_of-self-2 : goal.invariant_of-self-2
invariant_of-self-2 c =
    let now = c.self.inside in
    walks_on now.index.now.kinds.items now.index.now.claims.entries now.index.now.idle.items now.last now.cursors.items c.deref.result.now c.deref.ensures.value c.self.invariant c.in_ok-queue.queue c.in_ok-queue.ensures
    c.in_ok-cursor.cursor
    (taken_there now.cursors.items c.deref.result.now c.in_ok-queue.queue c.deref.ensures.value c.in_ok-queue.ensures (Some c.in_ok-cursor.cursor)
    (subst (λ o. o ≡ get_or now.cursors.items c.in_ok-queue.queue o) (sym c.in_ok-cursor.ensures.value) c.index_mut.ensures.value))
    (record { queue = c.in_ok-queue.queue; priority = c.get.result; number = c.in_ok-cursor.cursor.claim.now.number }) c.get.ensures.number refl c.take.new.self c.step.result c.step.ensures

pub returns-clause-steps : goal.returns-clause-steps
returns-clause-steps c =
    let now = c.self.inside in
    sym c.self.view_is
    ∙ lends_on now.index.now.kinds.items now.index.now.claims.entries now.index.now.idle.items now.last now.cursors.items c.deref.result.now c.deref.ensures.value c.self.invariant c.in_ok-queue.queue c.in_ok-queue.ensures
    c.in_ok-cursor.cursor
    (taken_there now.cursors.items c.deref.result.now c.in_ok-queue.queue c.deref.ensures.value c.in_ok-queue.ensures (Some c.in_ok-cursor.cursor)
    (subst (λ o. o ≡ get_or now.cursors.items c.in_ok-queue.queue o) (sym c.in_ok-cursor.ensures.value) c.index_mut.ensures.value))
    (record { queue = c.in_ok-queue.queue; priority = c.get.result; number = c.in_ok-cursor.cursor.claim.now.number }) c.get.ensures.number refl

pub returns-clause-goes : goal.returns-clause-goes
returns-clause-goes c = record {
  on = λ finite. (tt, tt, omega (arith, ap length (returns-clause-steps c)));
  keeps = tt;
  rests = λ finite. tt;
}
