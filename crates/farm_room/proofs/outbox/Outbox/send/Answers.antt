-- What the writer took was the front of what was left.
use Rattle.std.proofs.Common.{◌≡◌, ◌-◌, length, take, drop, ap, subst, ◌∙◌, arith}
use Rattle.std.proofs.lemmas.List.{drop-drop, length-drop, take_all}
use Rattle.farm_room.specs.Waiting.{unsent, SendsSome}
use Rattle.farm_room.proofs.RowLemmas.{sends_more}
use Rattle.farm_room.proofs.outbox.Outbox.send.Goals as goal

pub loop-self-preserved : goal.loop-self-preserved
loop-self-preserved g c =
    let items = c.loop-self.self.bytes.items in
    let sent = c.loop-self.self.sent in
    let all = c.deref.result.now in
    let rest : take (length all - sent) (drop sent all) ≡ drop sent items = take_all (length all - sent) (drop sent all) (omega (arith, length-drop sent all)) ∙ ap (drop sent) c.deref.ensures.value in
    subst (SendsSome (g.W.Write.contents c.args.writer.now) (g.W.Write.contents c.write.new.self) (unsent c.args.self.now)) (drop-drop c.in-Ok.count sent items) (sends_more _ _ _ _ (drop sent items) c.in-Ok.count c.loop-self.invariant (rw rest at c.in-Ok.ensures.bytes))
