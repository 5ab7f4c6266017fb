-- By what is known of the bytes.
use Rattle.std.proofs.Common.{◌≡◌, ◌<◌, ◌≤◌, ap, arith, length, rules, sym, subst, true, vec_len, ◌∙◌}
use Rattle.farm_room.specs.Came.{IsAwaited}
use Rattle.farm_room.proofs.InboxLemmas.{awaited_more, awaited_open, awaited_refused, awaited_whole, known_same}
use Rattle.farm_room.proofs.inbox.Inbox.is_awaited.Goals as goal

pub invariant_of-self-clause-known : goal.invariant_of-self-clause-known
invariant_of-self-clause-known c = known_same _ _ _ _ c.reserve_exact.ensures.items c.front.new.self.known

pub returns-in-Open-clause-awaited : goal.returns-in-Open-clause-awaited
returns-in-Open-clause-awaited c = awaited_open _ _ c.in-Open.is c.front.ensures.front

pub returns-in-Whole-clause-awaited : goal.returns-in-Whole-clause-awaited
returns-in-Whole-clause-awaited c =
    let counted : length c.args.self.now.bytes.items ≡ vec_len c.args.self.now.bytes = search rules in
    let came : length c.front.new.self.bytes.items ≡ c.len-came.result = ap length c.front.ensures.bytes ∙ counted ∙ sym c.len-came.ensures in
    let less : length c.front.new.self.bytes.items < c.in-Whole.whole = omega (arith, came, c.if-came-whole.true) in
    subst (λ l. ∥ IsAwaited l true ∥₁) (sym c.reserve_exact.ensures.items) (awaited_more _ _ _ c.in-Whole.is less c.front.ensures.front)

pub returns-in-Whole-2-clause-awaited : goal.returns-in-Whole-2-clause-awaited
returns-in-Whole-2-clause-awaited c =
    let counted : length c.args.self.now.bytes.items ≡ vec_len c.args.self.now.bytes = search rules in
    let came : length c.front.new.self.bytes.items ≡ c.len-came.result = ap length c.front.ensures.bytes ∙ counted ∙ sym c.len-came.ensures in
    let all : c.in-Whole.whole ≤ length c.front.new.self.bytes.items = omega (arith, came, c.if-came-whole.false) in
    awaited_whole _ _ _ c.in-Whole.is all c.front.ensures.front

pub returns-in-Whole-2-2-clause-awaited : goal.returns-in-Whole-2-2-clause-awaited
returns-in-Whole-2-2-clause-awaited c = awaited_refused _ c.in-Whole-2.ensures.front
