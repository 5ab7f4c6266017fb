-- What an accepted call of a sound farm gives its change.
use Rattle.std.proofs.Common.{◌≡◌, ℕ, ◌≤◌, ◌∷◌, [], not, Bool, true, false, List, None, refl, arith}
use Rattle.farm_core.proofs.Names.{Call, nat_tests}
use Rattle.farm_types.specs.Names.{bad_moment, early_refusal, Farm, farm_at_call, first_code, forbidden, is_late, is_reused, IsSound, key_reused, last_moment}
use Rattle.farm_types.specs.Names.{may_give, refusal, RefusalTest}
use Rattle.farm_sound.proofs.Answered.{unrefused}

clear_first : (test : Bool) (code : ℕ) (rest : List RefusalTest) → first_code ((test, code) ∷ rest) ≡ None → test ≡ false
clear_first true code rest is = cc
clear_first false code rest is = refl

-- the clock moves to a moment that is good
pub in_time : (F : Farm) (call : Call) → None ≡ refusal F call → IsSound F → (farm_at_call F call).clock ≤ last_moment
unfolding early_refusal
in_time F call clear sound =
    let early = clear_first (is_late call) bad_moment ((is_reused F call, key_reused) ∷ (not (may_give call.caller call.cmd), forbidden) ∷ []) (unrefused F call clear).early in
    let now : call.now ≤ last_moment = grind (arith, nat_tests) in
    omega (arith, sound.steady.clock)
