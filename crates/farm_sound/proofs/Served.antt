-- After a call that makes a pass no claim is met by free boards, and the group that collects not by its own with them.
use native.Mathlib.Omega.{arith}
use Rattle.std.proofs.Common.{◌+◌, ◌≡◌, List, None, subst, sym, ℕ}
use Rattle.farm_sound.proofs.Names.{Call, Cmd, Farm, KeptRow, Reply}
use Rattle.farm_types.specs.Names.{act, answer, change, Changed, farm_at_call, IsSound, keep, refusal, step}
use Rattle.farm_sound.specs.Served.{IsServed, IsCollectorUnmet}
use Rattle.farm_sound.proofs.Answered.{answers_changed, answers_denied, answers_repeated}
use Rattle.farm_sound.proofs.Step.{IsSound-moved_to}
use Rattle.farm_sound.proofs.Passed.{pass_is_short, pass_serves}

-- what a pass leaves stays when the reply is kept and the command is counted
module _ (P : Farm → Type 0) (stays : (F : Farm) (kept : List KeptRow) (count : ℕ) → P F → P (record F { kept = kept; count = count }))
    (passes : (F : Farm) (caller : List ℕ) → IsSound F → P (act F caller Cmd.Pass).farm) where
  left_kept : (G : Farm) (call : Call) (reply : Reply) (count : ℕ) → P G → P (record (keep call reply G) { count = count })
  left_kept G call reply count is = grind arith

  left_changed : (F : Farm) (call : Call) → call.cmd ≡ Cmd.Pass → None ≡ refusal F call → IsSound F → P (change F call).farm
  unfolding change
  left_changed F call pass clear sound =
      let G : Farm = farm_at_call F call in
      let acted : P (act G call.caller call.cmd).farm =
      subst (λ c. P (act G call.caller c).farm) (sym pass) (passes G call.caller (IsSound-moved_to F call clear sound)) in
      left_kept (act G call.caller call.cmd).farm call (act G call.caller call.cmd).reply (F.count + 1) acted

  pub left_stepped : (F : Farm) (call : Call) (reply : Reply) → call.cmd ≡ Cmd.Pass → answer F call ≡ Changed reply → IsSound F → P (step F call)
  left_stepped F call reply pass changed sound = grind (arith, answers_repeated F call, answers_denied F call, answers_changed F call, left_changed F call pass)

pub IsServed-step : (F : Farm) (call : Call) (reply : Reply) → call.cmd ≡ Cmd.Pass → answer F call ≡ Changed reply → IsSound F → IsServed (step F call)
IsServed-step = left_stepped IsServed (λ F kept count is. is) (λ F caller sound. pass_serves F sound)

pub IsCollectorUnmet-step : (F : Farm) (call : Call) (reply : Reply) → call.cmd ≡ Cmd.Pass → answer F call ≡ Changed reply → IsSound F → IsCollectorUnmet (step F call)
IsCollectorUnmet-step = left_stepped IsCollectorUnmet (λ F kept count is. is) (λ F caller sound. pass_is_short F sound)
