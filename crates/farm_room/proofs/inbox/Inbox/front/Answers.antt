-- What was looked at before is known, and the rest is looked at.
use Rattle.std.proofs.Common.{◌≡◌, length, rules, sym, vec_len, ◌∙◌}
use Rattle.farm_room.proofs.InboxLemmas.{is_begun, looked, stays_open}
use Rattle.farm_room.proofs.inbox.Inbox.front.Goals as goal

pub returns-in-Open-clause-front : goal.returns-in-Open-clause-front
returns-in-Open-clause-front c =
    looked _ _ _ _ _ c.args.self.now.known c.in_default.is c.as_slice.ensures.value c.front_of-front.ensures

pub returns-in-Refused-clause-front : goal.returns-in-Refused-clause-front
returns-in-Refused-clause-front c =
    looked _ _ _ _ _ c.args.self.now.known c.in_default.is c.as_slice.ensures.value c.front_of-front.ensures

pub invariant_of-self-clause-known : goal.invariant_of-self-clause-known
invariant_of-self-clause-known c =
    let counted : length c.args.self.now.bytes.items ≡ vec_len c.args.self.now.bytes = search rules in
    stays_open _ _ _ _ c.in_default.is (c.len-self.ensures ∙ sym counted) c.in-Open.is (looked _ _ _ _ _ c.args.self.now.known c.in_default.is c.as_slice.ensures.value c.front_of-front.ensures)

pub invariant_of-self-in-Whole-clause-known : goal.invariant_of-self-in-Whole-clause-known
invariant_of-self-in-Whole-clause-known c =
    is_begun _ c.args.self.now.seen _ _ c.in-Whole.is (looked _ _ _ _ _ c.args.self.now.known c.in_default.is c.as_slice.ensures.value c.front_of-front.ensures)
