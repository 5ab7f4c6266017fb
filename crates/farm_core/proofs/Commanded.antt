-- The queues follow a command as the machine says.
use native.Mathlib.Omega.{arith}
use Rattle.std.proofs.Common.{◌≡◌, ◌∙◌, ◌==◌, ◌+◌, ℕ, List, false, map, not, Option, Some, None, refl, sym, ap}
use Rattle.farm_core.proofs.Names.{Call, Cmd, JobRow, option_map_or, queue_lists, queued_filter, queued_of, QueueLists}
use Rattle.farm_types.specs.Names.{Farm, farm_at_call, IsSound, job_of, keep, moment, new_res, queue, refusal, res_claim}
use Rattle.farm_types.specs.declared.rows.Reply.{Reply}
use Rattle.farm_sound.proofs.Step.{IsAccepted-moved, IsSound-moved_to, accepted}
use Rattle.farm_pick.specs.Follow.{queue_after, queue_without}
use Rattle.farm_pick.proofs.Commands.{commands_follow}
use Rattle.farm_pick.proofs.Filling.{queued_put}
use Rattle.farm_core.specs.Following.{queues_after, without_claim, FollowsIn}
use Rattle.farm_core.proofs.Free.{free_after}

-- no command but a pass touches the free boards before they follow
pub boards_stay : (F : Farm) (caller : List ℕ) (cmd : Cmd) (lists : QueueLists) → (queues_after F caller cmd lists).boards ≡ lists.boards
boards_stay F caller (Cmd.Submit priority wants roles body) lists = refl
boards_stay F caller (Cmd.Reserve priority tags) lists = refl
boards_stay F caller (Cmd.Cancel number) lists = grind arith
boards_stay F caller (Cmd.CancelRes number) lists = refl
boards_stay F caller (Cmd.AddType name check) lists = refl
boards_stay F caller (Cmd.AddBoard name kind tags) lists = refl
boards_stay F caller (Cmd.SetTags name tags) lists = refl
boards_stay F caller (Cmd.SetHealth name health) lists = refl
boards_stay F caller (Cmd.Start number) lists = refl
boards_stay F caller (Cmd.Finish number outcome) lists = refl
boards_stay F caller (Cmd.Acquire number) lists = refl
boards_stay F caller (Cmd.Release number) lists = refl
boards_stay F caller (Cmd.Refresh number) lists = refl
boards_stay F caller Cmd.Pass lists = refl

-- the claims are put and taken as in the queue
claims_follow : (F : Farm) (caller : List ℕ) (cmd : Cmd) → (queues_after F caller cmd (queue_lists F)).claims ≡ map queued_of (queue_after F caller cmd)
claims_follow F caller (Cmd.Submit priority wants roles body) = sym (queued_put (queue F) (record { reservation = false; number = F.next; owner = caller; priority = priority; wants = wants }))
claims_follow F caller (Cmd.Reserve priority tags) = sym (queued_put (queue F) (res_claim (new_res F.next caller priority tags (F.clock + 60))))
claims_follow F caller (Cmd.Cancel number) = by (job_of F number)
  where
    by : (o : Option JobRow) → (option_map_or {U = QueueLists} (λ j. without_claim j.group (queue_lists F)) o (queue_lists F)).claims ≡ map queued_of (option_map_or (λ j. queue_without j.group (queue F)) o (queue F))
    by None = refl
    by (Some j) = sym (queued_filter (λ n. not (n == j.group)) (queue F))
claims_follow F caller (Cmd.CancelRes number) = sym (queued_filter (λ n. not (n == number)) (queue F))
claims_follow F caller (Cmd.AddType name check) = refl
claims_follow F caller (Cmd.AddBoard name kind tags) = refl
claims_follow F caller (Cmd.SetTags name tags) = refl
claims_follow F caller (Cmd.SetHealth name health) = refl
claims_follow F caller (Cmd.Start number) = refl
claims_follow F caller (Cmd.Finish number outcome) = refl
claims_follow F caller (Cmd.Acquire number) = refl
claims_follow F caller (Cmd.Release number) = refl
claims_follow F caller (Cmd.Refresh number) = refl
claims_follow F caller Cmd.Pass = refl

pub follows_in : (F : Farm) (call : Call) → IsSound F → None ≡ refusal F call → FollowsIn (farm_at_call F call) call.caller call.cmd
follows_in F call sound clear = record {
  claims = λ other. claims_follow (farm_at_call F call) call.caller call.cmd ∙ ap (map queued_of) (sym (commands_follow F call sound clear other));
  free = λ other. free_after (farm_at_call F call) (moment F call) call.caller call.cmd (IsSound-moved_to F call clear sound)
      (IsAccepted-moved F (moment F call) (moment F call) call.caller call.cmd (accepted F call clear)) other;
}

-- a kept reply changes neither
pub kept_lists : (F : Farm) (call : Call) (reply : Reply) → queue_lists (keep call reply F) ≡ queue_lists F
kept_lists F call reply = grind arith
