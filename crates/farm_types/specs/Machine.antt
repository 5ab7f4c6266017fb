-- The machine: one call after another.
use Rattle.std.specs.Prelude.{ℕ, List, Option, Some, None, if◌then◌else◌}
use Rattle.std.specs.List.{fold}
use Rattle.std.specs.Option.{option_map}
use Rattle.farm_types.specs.Farm.{Farm}
use Rattle.farm_types.specs.Refuse.{is_late, kept_for, keeps_kind, refusal}
use Rattle.farm_types.specs.Change.{change}
use Rattle.farm_types.specs.declared.rows.Reply.{Reply}
use Rattle.farm_types.specs.declared.calls.Call.{Call}

-- the answer of a change, a kept reply, or a refusal's code
pub data Answered : Type 0 where
  Changed : Reply → Answered
  Repeated : Reply → Answered
  Denied : ℕ → Answered

-- the reply that is kept for the call's key and the same command, where the moment is good
abbrev pub repeated_reply : Farm → Call → Option Reply
repeated_reply F call =
    if is_late call then None
    else (if keeps_kind F call then option_map (λ r. r.reply) (kept_for F call) else None)

abbrev pub answer_by : Option Reply → Option ℕ → Reply → Answered
answer_by (Some kept) code reply = Repeated kept
answer_by None (Some code) reply = Denied code
answer_by None None reply = Changed reply

-- a kept reply goes before every refusal but that of the moment
unfoldable pub answer : Farm → Call → Answered
answer F call = answer_by (repeated_reply F call) (refusal F call) (change F call).reply

abbrev pub step_by : Answered → Farm → Farm → Farm
step_by (Changed reply) F G = G
step_by (Repeated reply) F G = F
step_by (Denied code) F G = F

-- a refused or repeated command changes nothing
unfoldable pub step : Farm → Call → Farm
step F call = step_by (answer F call) F (change F call).farm

abbrev pub run : Farm → List Call → Farm
run F calls = fold step F calls
