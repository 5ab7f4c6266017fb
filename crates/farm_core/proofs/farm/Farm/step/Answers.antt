use Rattle.std.proofs.Common.{ap, sym, ◌∙◌}
use Rattle.farm_types.specs.Names.{Changed}
use Rattle.farm_core.specs.Plain.{plain_farm}
use Rattle.farm_sound.proofs.Answered.{answers_repeated, answers_denied, answers_changed}
use Rattle.farm_sound.proofs.Step.{IsSound-change}
use Rattle.farm_core.proofs.Sound.{AreSmall-sound}
use Rattle.farm_core.proofs.farm.Farm.step.Goals as goal

pub returns-in-Some-clause-answer : goal.returns-in-Some-clause-answer
returns-in-Some-clause-answer c = rw (← c.self.view_is) (sym (answers_repeated _ c.args.call.now _ (c.in-Some.ensures (plain_farm c.self.inside.tables) c.find_kept-kept.ensures)).answer)

pub returns-in-Some-clause-farm : goal.returns-in-Some-clause-farm
returns-in-Some-clause-farm c = rw (← c.self.view_is) (sym (answers_repeated _ c.args.call.now _ (c.in-Some.ensures (plain_farm c.self.inside.tables) c.find_kept-kept.ensures)).step)

pub returns-in-Some-refusal-clause-answer : goal.returns-in-Some-refusal-clause-answer
returns-in-Some-refusal-clause-answer c =
    rw (← c.self.view_is) (sym (answers_denied _ c.args.call.now _ (c.in_default.ensures (plain_farm c.self.inside.tables) c.find_kept-kept.ensures) c.in-Some-refusal.ensures).answer)

pub returns-in-Some-refusal-clause-farm : goal.returns-in-Some-refusal-clause-farm
returns-in-Some-refusal-clause-farm c =
    rw (← c.self.view_is) (sym (answers_denied _ c.args.call.now _ (c.in_default.ensures (plain_farm c.self.inside.tables) c.find_kept-kept.ensures) c.in-Some-refusal.ensures).step)

pub change-requires-clause-accepted : goal.change-requires-clause-accepted
change-requires-clause-accepted c = c.in_default-refusal.ensures

pub returns-in_err-reply-clause-memory : goal.returns-in_err-reply-clause-memory
returns-in_err-reply-clause-memory c =
    λ _. rw (← c.self.view_is) (rw (answers_changed _ c.args.call.now (c.in_default.ensures (plain_farm c.self.inside.tables) c.find_kept-kept.ensures) c.in_default-refusal.ensures).answer tt)

pub invariant_of-self-2 : goal.invariant_of-self-2
invariant_of-self-2 c =
    λ _. record {
      sound = rw c.in_ok-reply.ensures.farm (IsSound-change _ c.args.call.now c.in_default-refusal.ensures (c.self.invariant c.if-self.false).sound);
      fits = c.in_ok-reply.ensures.queues;
    }

pub change-requires-clause-fits : goal.change-requires-clause-fits
change-requires-clause-fits c = (c.self.invariant c.if-self.false).fits

pub returns-clause-answer : goal.returns-clause-answer
returns-clause-answer c =
    rw (← c.self.view_is) (ap Changed c.in_ok-reply.ensures.reply ∙ sym (answers_changed _ c.args.call.now (c.in_default.ensures (plain_farm c.self.inside.tables) c.find_kept-kept.ensures) c.in_default-refusal.ensures).answer)

pub returns-clause-farm : goal.returns-clause-farm
returns-clause-farm c =
    rw (← c.self.view_is) (c.in_ok-reply.ensures.farm ∙ sym (answers_changed _ c.args.call.now (c.in_default.ensures (plain_farm c.self.inside.tables) c.find_kept-kept.ensures) c.in_default-refusal.ensures).step)

pub returns-clause-sound : goal.returns-clause-sound
returns-clause-sound c =
    rw c.in_ok-reply.ensures.farm (IsSound-change _ c.args.call.now c.in_default-refusal.ensures (c.self.invariant c.if-self.false).sound)

pub change-requires-clause-sound : goal.change-requires-clause-sound
change-requires-clause-sound c = (c.self.invariant c.if-self.false).sound

pub returns-clause-small : goal.returns-clause-small
returns-clause-small c =
    AreSmall-sound _ (plain_farm c.change.new.self) c.in_ok-reply.ensures.small c.in_ok-reply.ensures.meta
    (rw c.in_ok-reply.ensures.farm (IsSound-change _ c.args.call.now c.in_default-refusal.ensures (c.self.invariant c.if-self.false).sound))
