-- Each wait leaves those that are ready, and then one is taken.
use Rattle.std.proofs.Common.{refl, sym, subst}
use Rattle.std.specs.VecDeque.{deque_items}
use Rattle.farm_room.specs.Waiting.{AllStay}
use Rattle.farm_room.proofs.RowLemmas.{AllWait, all_of, waits_then}
use Rattle.farm_room.proofs.connections.Connections.next_connection.Goals.{else-loop-test, then-loop-test+then-has_next-2, then-has_registered+then-has_next, else-has_registered}
use Rattle.farm_room.proofs.connections.Connections.next_connection.Goals as goal

pub loop-preserved : goal.loop-preserved
loop-preserved g c =
    let accepted : AllWait c.loop.self c.accept_all.new.self = (c.accept_all.ensures.all, all_of _ _ c.accept_all.ensures.ready) in
    let polled : AllWait c.accept_all.new.self c.if-has_registered.self = elim c.if-has_registered.branch [
      | then-has_registered+then-has_next w ↦ subst (λ it. AllWait c.accept_all.new.self it) (sym w.self-is) (w.poll_events.ensures.all, w.poll_events.ensures.ready)
      | else-has_registered w ↦ subst (λ it. AllWait c.accept_all.new.self it) (sym w.self-is) ((λ few. refl), (λ one at. at))
    ] in
    let before : AllWait c.args.self.now c.accept_all.new.self = waits_then c.args.self.now c.loop.self c.accept_all.new.self c.loop.invariant accepted in
    let after : AllWait c.args.self.now c.if-has_registered.self = waits_then c.args.self.now c.accept_all.new.self c.if-has_registered.self before polled in
    waits_then c.args.self.now c.if-has_registered.self c.poll_events-in-loop.new.self after (c.poll_events-in-loop.ensures.all, c.poll_events-in-loop.ensures.ready)

pub returns-clause-ready : goal.returns-clause-ready
returns-clause-ready g c =
    let wait : AllStay (deque_items c.args.self.now.ready) (deque_items c.loop-test.self.ready) = elim c.loop-test.branch [
      | else-loop-test w ↦ subst (λ it. AllStay (deque_items c.args.self.now.ready) (deque_items it.ready)) (sym w.self-is) c.loop.invariant.1
      | then-loop-test+then-has_next-2 w ↦
          let accepted : AllStay (deque_items c.loop.self.ready) (deque_items w.accept_all.new.self.ready) = all_of _ _ w.accept_all.ensures.ready in
          let polled : AllStay (deque_items w.accept_all.new.self.ready) (deque_items w.if-has_registered.self.ready) = elim w.if-has_registered.branch [
            | then-has_registered+then-has_next w' ↦ subst (λ it. AllStay (deque_items w.accept_all.new.self.ready) (deque_items it.ready)) (sym w'.self-is) w'.poll_events.ensures.ready
            | else-has_registered w' ↦ subst (λ it. AllStay (deque_items w.accept_all.new.self.ready) (deque_items it.ready)) (sym w'.self-is) (λ one at. at)
          ] in
          subst (λ it. AllStay (deque_items c.args.self.now.ready) (deque_items it.ready)) (sym w.self-is) (λ one at. polled one (accepted one (c.loop.invariant.1 one at)))
    ] in
    λ one at. c.take_next.ensures.ready one (wait one at)
