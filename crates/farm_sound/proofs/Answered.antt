-- What the machine answers, by what the tests found.
use Rattle.std.proofs.Common.{◌<◌, ◌≡◌, Bool, None, Option, Some, ap, arith, false, refl, sym, true, ℕ}
use Rattle.farm_sound.proofs.Names.{Call, Farm, nat_tests, option_or, Reply}
use Rattle.std.specs.Bool.{then_some}
use Rattle.farm_types.specs.Names.{answer, answer_by, Answered, change, Changed, Denied, early_refusal, is_full, most_commands, own_refusal, refusal, Repeated}
use Rattle.farm_types.specs.Names.{repeated_reply, step, step_by}

-- what the machine answers, and the farm that it leaves
pub record Answers (F : Farm) (call : Call) (a : Answered) (G : Farm) : Type 0 where
  pub answer : answer F call ≡ a
  pub step : step F call ≡ G

pub answers_repeated : (F : Farm) (call : Call) (r : Reply) → Some r ≡ repeated_reply F call → Answers F call (Repeated r) F
unfolding answer step
answers_repeated F call r is = record {
  answer = ap (λ kept. answer_by kept (refusal F call) (change F call).reply) (sym is);
  step = ap (λ kept. step_by (answer_by kept (refusal F call) (change F call).reply) F (change F call).farm) (sym is);
}

pub answers_denied : (F : Farm) (call : Call) (code : ℕ) → None ≡ repeated_reply F call → Some code ≡ refusal F call → Answers F call (Denied code) F
unfolding answer step
answers_denied F call code none is = record {
  answer = λ i. answer_by (sym none i) (sym is i) (change F call).reply;
  step = λ i. step_by (answer_by (sym none i) (sym is i) (change F call).reply) F (change F call).farm;
}

pub answers_changed : (F : Farm) (call : Call) → None ≡ repeated_reply F call → None ≡ refusal F call
    → Answers F call (Changed (change F call).reply) (change F call).farm
unfolding answer step
answers_changed F call none is = record {
  answer = λ i. answer_by (sym none i) (sym is i) (change F call).reply;
  step = λ i. step_by (answer_by (sym none i) (sym is i) (change F call).reply) F (change F call).farm;
}

-- a call that is not refused
pub record IsUnrefused (F : Farm) (call : Call) : Type 0 where
  pub early : early_refusal F call ≡ None
  pub own : own_refusal F call ≡ None
  pub room : is_full F call ≡ false

none_of_or : {T : Type 0} (p q : Option T) → None ≡ option_or p q → (p ≡ None) × (q ≡ None)
none_of_or None q is = (refl, sym is)
none_of_or (Some x) q is = (sym is, cc)

none_of_then : (b : Bool) (x : ℕ) → then_some b x ≡ None → b ≡ false
none_of_then true x is = cc
none_of_then false x is = refl

pub unrefused : (F : Farm) (call : Call) → None ≡ refusal F call → IsUnrefused F call
unfolding refusal
unrefused F call is =
    let first = none_of_or (early_refusal F call) (option_or (own_refusal F call) (then_some (is_full F call) 4)) is in
    let last = none_of_or (own_refusal F call) (then_some (is_full F call) 4) (sym first.1) in
    record { early = first.0; own = last.0; room = none_of_then (is_full F call) 4 last.1 }

-- the count has room
pub count_has_room : (F : Farm) (call : Call) → None ≡ refusal F call → F.count < most_commands
count_has_room F call is = let room = (unrefused F call is).room in grind (arith, nat_tests)
