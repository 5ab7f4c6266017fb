-- Every command keeps a farm sound, and so does every run.
use Rattle.std.proofs.Common.{◌&&◌, ◌+◌, ◌<◌, ◌||◌, ◌∷◌, ◌≡◌, ◌≤◌, List, None, Option, Some, arith, false, is_some, length, nat_le, not, refl, subst, sym, true}
use Rattle.std.proofs.Common.{ℕ, []}
use Rattle.farm_sound.proofs.Names.{Call, Cmd, Farm, nat_tests, option_map_or, put_kept, Reply}
use Rattle.farm_types.specs.Names.{act, change, Done, early_refusal, farm_at_call, is_full_for, is_late, is_proper_cmd, is_reused, is_word, IsSound, keep}
use Rattle.farm_types.specs.Names.{kind_of, last_kind, last_moment, longest_key, longest_name, may_give, moment, most_commands, most_replies, own_refusal}
use Rattle.farm_types.specs.Names.{refusal, repeated_reply, run, step}
use Rattle.farm_sound.proofs.Accepted.{Acted, IsAccepted}
use Rattle.farm_sound.proofs.AcceptedCommands.{acted}
use Rattle.farm_sound.proofs.Answered.{answers_changed, answers_denied, answers_repeated, count_has_room, unrefused}
use Rattle.farm_sound.proofs.Clear.{first_clear}
use Rattle.farm_sound.proofs.Numbers.{IsSound-counted, IsSound-moved, IsSound-put_kept}
use Rattle.farm_sound.proofs.Tests.{both, both_false}

-- the reasons and the room are those of the farm before its clock moved
pub IsAccepted-moved : (F : Farm) (m t : ℕ) (caller : List ℕ) (cmd : Cmd) → IsAccepted F t caller cmd → IsAccepted (record F { clock = m }) t caller cmd
IsAccepted-moved F m t caller (Cmd.AddType name check) is = record { caller = is.caller; proper = is.proper; clear = is.clear; room = is.room }
IsAccepted-moved F m t caller cmd is = record { caller = is.caller; proper = is.proper; clear = is.clear; room = is.room }

-- ---- the reply is kept

low_kind : (cmd : Cmd) → (1 ≤ kind_of cmd) × (kind_of cmd ≤ last_kind)
low_kind (Cmd.AddType a b) = (omega arith, omega arith)
low_kind cmd = (omega arith, omega arith)

IsSound-keep : (F : Farm) (call : Call) (d : Done) → Acted F d → (is_some call.key && nat_le most_replies (length F.kept)) ≡ false
    → IsSound (keep call d.reply d.farm)
IsSound-keep F call d left room = by call.key words.1 room
  where
    words : (is_word longest_name call.caller ≡ true) × (option_map_or (is_word longest_key) call.key true ≡ true)
    words = both (is_word longest_name call.caller) (option_map_or (is_word longest_key) call.key true)
        (both (is_word longest_name call.caller && option_map_or (is_word longest_key) call.key true) (is_proper_cmd call.cmd) call.proper).0

    by : (key : Option (List ℕ)) → option_map_or (is_word longest_key) key true ≡ true → (is_some key && nat_le most_replies (length F.kept)) ≡ false
        → IsSound (option_map_or (λ k. put_kept d.farm (record { caller = call.caller; key = k; kind = kind_of call.cmd; reply = d.reply })) key d.farm)
    by None proper room = left.sound
    by (Some k) proper room =
        IsSound-put_kept d.farm (record { caller = call.caller; key = k; kind = kind_of call.cmd; reply = d.reply })
        (record { caller = words.0; key = proper; kind = low_kind call.cmd; reply = (left.first, left.second, left.third) })
        (subst (λ rows. length rows < most_replies) (sym left.kept) (grind (arith, nat_tests))) left.sound

-- ---- a change, a step and a run

pub accepted : (F : Farm) (call : Call) → None ≡ refusal F call → IsAccepted F (moment F call) call.caller call.cmd
unfolding own_refusal
accepted F call clear =
    let free = unrefused F call clear in
    let full = both_false (is_full_for F call.cmd || (is_some call.key && nat_le most_replies (length F.kept))) (nat_le most_commands F.count) free.room in
    let words = both (is_word longest_name call.caller && option_map_or (is_word longest_key) call.key true) (is_proper_cmd call.cmd) call.proper in
    record {
      caller = (both (is_word longest_name call.caller) (option_map_or (is_word longest_key) call.key true) words.0).0;
      proper = words.1;
      clear = free.own;
      room = (both_false (is_full_for F call.cmd) (is_some call.key && nat_le most_replies (length F.kept)) full.0).0;
    }

-- the farm whose clock has moved
pub IsSound-moved_to : (F : Farm) (call : Call) → None ≡ refusal F call → IsSound F → IsSound (farm_at_call F call)
unfolding early_refusal
IsSound-moved_to F call clear sound =
    let free = unrefused F call clear in
    let early = first_clear (is_late call) 2 ((is_reused F call, 40) ∷ (not (may_give call.caller call.cmd), 3) ∷ []) free.early in
    let in_time : call.now ≤ last_moment = (let late = early.0 in grind (arith, nat_tests)) in
    IsSound-moved F (moment F call) (omega arith) (omega (arith, sound.steady.clock)) sound

-- what the command leaves, before its reply is kept
pub acted_call : (F : Farm) (call : Call) → None ≡ refusal F call → IsSound F → Acted (farm_at_call F call) (act (farm_at_call F call) call.caller call.cmd)
acted_call F call clear sound =
    acted (farm_at_call F call) (moment F call) call.caller call.cmd
    (IsAccepted-moved F (moment F call) (moment F call) call.caller call.cmd (accepted F call clear)) (IsSound-moved_to F call clear sound)

pub IsSound-change : (F : Farm) (call : Call) → None ≡ refusal F call → IsSound F → IsSound (change F call).farm
unfolding change
IsSound-change F call clear sound =
    let done : Done = act (farm_at_call F call) call.caller call.cmd in
    let full = both_false (is_full_for F call.cmd || (is_some call.key && nat_le most_replies (length F.kept))) (nat_le most_commands F.count)
    (unrefused F call clear).room in
    let room = both_false (is_full_for F call.cmd) (is_some call.key && nat_le most_replies (length F.kept)) full.0 in
    IsSound-counted (keep call done.reply done.farm) (F.count + 1) (omega (arith, count_has_room F call clear))
    (IsSound-keep (farm_at_call F call) call done (acted_call F call clear sound) room.1)

pub IsSound-step : (F : Farm) (call : Call) → IsSound F → IsSound (step F call)
IsSound-step F call sound = by (repeated_reply F call) refl (refusal F call) refl
  where
    by : (kept : Option Reply) → repeated_reply F call ≡ kept → (code : Option ℕ) → refusal F call ≡ code → IsSound (step F call)
    by (Some r) is code denied = subst IsSound (sym (answers_repeated F call r (sym is)).step) sound
    by None is (Some code) denied = subst IsSound (sym (answers_denied F call code (sym is) (sym denied)).step) sound
    by None is None denied = subst IsSound (sym (answers_changed F call (sym is) (sym denied)).step) (IsSound-change F call (sym denied) sound)

pub IsSound-run : (calls : List Call) (F : Farm) → IsSound F → IsSound (run F calls)
IsSound-run [] F sound = sound
IsSound-run (call ∷ calls) F sound = IsSound-run calls (step F call) (IsSound-step F call sound)
