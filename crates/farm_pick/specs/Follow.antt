-- How the queue and the free boards follow from one farm to the next.
use Rattle.std.specs.Prelude.{◌≡◌, ◌≢◌, ◌≤◌, ◌+◌, ◌==◌, ℕ, not, false, List, Some, None}
use Rattle.std.specs.List.{filter, list_any}
use Rattle.std.specs.Option.{option_map_or}
use Rattle.std.specs.Str.{bytes_eq}
use Rattle.farm_types.specs.Names.{act, checks, claim_cmp, Claimed, expire, Farm, farm_at_call, give, giving_back, is_dead, is_free, IsAmong, IsSound, job_of}
use Rattle.farm_types.specs.Names.{lease, least, new_res, pass_over, put, queue, refusal, res_claim}
use Rattle.farm_types.specs.declared.rows.BoardRow.{BoardRow}
use Rattle.farm_types.specs.declared.calls.Call.{Call}
use Rattle.farm_types.specs.declared.calls.Cmd.{Cmd}
use Rattle.farm_pick.specs.Queued.{idle_boards}

-- the queue without the claim of a number
abbrev pub queue_without : ℕ → List Claimed → List Claimed
queue_without number claims = filter (λ c. not (c.number == number)) claims

-- the queue that a command leaves: Submit and Reserve put a claim, Cancel and CancelRes take one,
-- and no other command but a pass changes it
abbrev pub queue_after : Farm → List ℕ → Cmd → List Claimed
queue_after F caller (Cmd.Submit priority wants roles body) =
    put claim_cmp (queue F) (record {
      reservation = false;
      number = F.next;
      owner = caller;
      priority = priority;
      wants = wants;
    })
queue_after F caller (Cmd.Reserve priority tags) =
    put claim_cmp (queue F) (res_claim (new_res F.next caller priority tags (F.clock + lease)))
queue_after F caller (Cmd.Cancel number) =
    option_map_or (λ j. queue_without j.group (queue F)) (job_of F number) (queue F)
queue_after F caller (Cmd.CancelRes number) = queue_without number (queue F)
queue_after F caller cmd = queue F

-- an accepted command but a pass leaves that queue
abbrev pub CommandsFollow : Type 0
CommandsFollow = (F : Farm) (call : Call) → IsSound F → None ≡ refusal F call
    → call.cmd ≢ Cmd.Pass
    → queue (act (farm_at_call F call) call.caller call.cmd).farm
    ≡ queue_after (farm_at_call F call) call.caller call.cmd

-- a pass begins with the boards that the collecting group gives back: it still waits
abbrev pub BacksFollow : Type 0
BacksFollow = (F : Farm) → queue (giving_back F) ≡ queue F

-- then the dead reservations end: their claims go
abbrev pub EndsFollow : Type 0
EndsFollow = (F : Farm) (t : ℕ) → IsSound F → t ≤ F.clock
    → queue (expire F t)
    ≡ filter (λ c. not (list_any (λ r. r.number == c.number) (filter (is_dead t) F.reservations)))
    (queue F)

-- then come the checks, which take no place in the queue
abbrev pub ChecksFollow : Type 0
ChecksFollow = (F : Farm) → IsSound F → queue (checks F F.clock) ≡ queue F

-- then each claim that is met goes, and its boards are free no more
abbrev pub GivingFollows : Type 0
GivingFollows = (F : Farm) (c : Claimed) (bs : List BoardRow) (t : ℕ) → IsSound F → t ≤ F.clock
    → IsAmong c (queue F) → least F.boards (is_free F.types) c.wants ≡ Some bs
    → (queue (give F c bs t) ≡ queue_without c.number (queue F))
    × (idle_boards (give F c bs t)
    ≡ filter (λ x. not (list_any (λ b. bytes_eq b.name x.name) bs)) (idle_boards F))

-- and each that isn't stays, also where it collects
abbrev pub CollectingFollows : Type 0
CollectingFollows = (F : Farm) (c : Claimed) → IsSound F → IsAmong c (queue F)
    → queue (pass_over F c) ≡ queue F
