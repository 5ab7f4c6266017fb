-- Worked scripts of the whole machine.
use Rattle.std.specs.Prelude.{◌≡◌, List, [], ◌∷◌, Some, None, codes, refl}
use Rattle.std.specs.Str.{is_utf8, chars}
use Rattle.farm_types.specs.Names.{Answered, Denied, empty_farm, is_proper_cmd, is_tag, is_tags, is_word, Repeated, reply_of, run}
use Rattle.farm_types.specs.declared.calls.Call.{Call}
use Rattle.farm_types.specs.declared.rows.Check.{Check}
use Rattle.farm_types.specs.declared.calls.Cmd.{Cmd}
use Rattle.farm_types.specs.declared.rows.Health.{Health}
use Rattle.farm_types.specs.declared.rows.Holder.{Holder}
use Rattle.farm_types.specs.declared.rows.JobState.{JobState}
use Rattle.farm_types.specs.declared.rows.KeptRow.{KeptRow}
use Rattle.farm_types.specs.declared.rows.Outcome.{Outcome}
use Rattle.farm_types.specs.declared.rows.ResState.{ResState}
use Rattle.farm_types.specs.declared.rows.State.{State}
use Rattle.farm_worked.specs.Worked.{with_key, call_under, answers, job_shows, res_shows, board_shows, did, passed, by_admin, by_dispatcher, by_ann, new_type}
use Rattle.farm_worked.specs.Worked.{new_board, set, a_board, single, any_board}

-- every command once
unfoldable pub all_fourteen_commands : List Call
unfolding is_proper_cmd is_word is_tag is_tags is_utf8 chars
all_fourteen_commands =
    by_admin 10 (new_type Check.Never) refl
    ∷ by_admin 10 (new_board (codes "b1") []) refl
    ∷ by_admin 10 (Cmd.SetTags (codes "b1") (codes "hdmi" ∷ [])) refl
    ∷ by_admin 10 (set (codes "b1") Health.Good) refl
    ∷ by_ann 20 (Cmd.Submit 50 (a_board (codes "hdmi" ∷ []) ∷ []) (None ∷ []) []) refl
    ∷ by_ann 20 any_board refl
    ∷ by_admin 30 Cmd.Pass refl
    ∷ by_admin 35 (Cmd.Start 1) refl
    ∷ by_admin 36 (Cmd.Cancel 1) refl
    ∷ by_admin 37 (Cmd.Finish 1 Outcome.Complete) refl
    ∷ by_ann 40 (Cmd.Refresh 2) refl
    ∷ by_admin 50 Cmd.Pass refl
    ∷ by_ann 60 (Cmd.Acquire 2) refl
    ∷ by_ann 70 (Cmd.Release 2) refl
    ∷ by_ann 80 (Cmd.CancelRes 2) refl
    ∷ []

-- each of the fourteen commands once under a key; ann's are for her own rows
unfoldable pub every_kind : List Call
unfolding is_proper_cmd is_word is_tag is_tags is_utf8 chars
every_kind =
    call_under (codes "admin") (codes "type.bbb") 10 (new_type Check.Never) refl
    ∷ call_under (codes "admin") (codes "board.b1") 10 (new_board (codes "b1") []) refl
    ∷ call_under (codes "admin") (codes "tags") 10 (Cmd.SetTags (codes "b1") (codes "hdmi" ∷ [])) refl
    ∷ call_under (codes "admin") (codes "health") 10 (set (codes "b1") Health.Good) refl
    ∷ call_under (codes "ann") (codes "s1") 20 (single 50) refl
    ∷ call_under (codes "ann") (codes "r1") 20 any_board refl
    ∷ call_under (codes "admin") (codes "p1") 30 Cmd.Pass refl
    ∷ call_under (codes "admin") (codes "s1") 35 (Cmd.Start 1) refl
    ∷ call_under (codes "admin") (codes "c1") 36 (Cmd.Cancel 1) refl
    ∷ call_under (codes "admin") (codes "f1") 37 (Cmd.Finish 1 Outcome.Complete) refl
    ∷ call_under (codes "ann") (codes "r2") 40 (Cmd.Refresh 2) refl
    ∷ by_admin 50 Cmd.Pass refl
    ∷ call_under (codes "ann") (codes "a1") 60 (Cmd.Acquire 2) refl
    ∷ call_under (codes "ann") (codes "b1") 70 (Cmd.Release 2) refl
    ∷ call_under (codes "ann") (codes "c1") 80 (Cmd.CancelRes 2) refl
    ∷ []

-- the replies by caller and key, each with its command's number; one key may serve two callers
abbrev pub all_kept : List KeptRow
all_kept =
    record { caller = codes "admin"; key = codes "board.b1"; kind = 2; reply = reply_of 0 0 0 }
    ∷ record { caller = codes "admin"; key = codes "c1"; kind = 6; reply = reply_of 1 0 0 }
    ∷ record { caller = codes "admin"; key = codes "f1"; kind = 8; reply = reply_of 1 0 0 }
    ∷ record { caller = codes "admin"; key = codes "health"; kind = 4; reply = reply_of 0 0 0 }
    ∷ record { caller = codes "admin"; key = codes "p1"; kind = 14; reply = reply_of 0 0 1 }
    ∷ record { caller = codes "admin"; key = codes "s1"; kind = 7; reply = reply_of 1 0 0 }
    ∷ record { caller = codes "admin"; key = codes "tags"; kind = 3; reply = reply_of 0 0 0 }
    ∷ record { caller = codes "admin"; key = codes "type.bbb"; kind = 1; reply = reply_of 0 0 0 }
    ∷ record { caller = codes "ann"; key = codes "a1"; kind = 10; reply = reply_of 2 0 0 }
    ∷ record { caller = codes "ann"; key = codes "b1"; kind = 11; reply = reply_of 2 0 0 }
    ∷ record { caller = codes "ann"; key = codes "c1"; kind = 13; reply = reply_of 2 0 0 }
    ∷ record { caller = codes "ann"; key = codes "r1"; kind = 9; reply = reply_of 2 0 0 }
    ∷ record { caller = codes "ann"; key = codes "r2"; kind = 12; reply = reply_of 2 0 0 }
    ∷ record { caller = codes "ann"; key = codes "s1"; kind = 5; reply = reply_of 1 0 0 }
    ∷ []

-- what each of them is answered, with a key or without
abbrev pub each_did : List Answered
each_did = did 0 ∷ did 0 ∷ did 0 ∷ did 0 ∷ did 1 ∷ did 2 ∷ passed 0 0 1 ∷ did 1 ∷ did 1 ∷ did 1 ∷ did 2 ∷ passed 0 0 1 ∷ did 2 ∷ did 2 ∷ did 2 ∷ []

-- a pass is accepted where there is nothing to do
unfoldable pub pass_on_empty_farm : List Call
unfolding is_proper_cmd is_word is_tag is_tags is_utf8 chars
pass_on_empty_farm =
    by_dispatcher 1700000000 Cmd.Pass refl
    ∷ []

-- a refused command changes nothing
unfoldable pub same_type_twice : List Call
unfolding is_proper_cmd is_word is_tag is_tags is_utf8 chars
same_type_twice =
    by_admin 10 (new_type Check.Never) refl
    ∷ by_admin 20 (new_type Check.Never) refl
    ∷ []

-- a repeated key is answered with the kept reply, and for another command it is refused
unfoldable pub keyed_type_twice : List Call
unfolding is_proper_cmd is_word is_tag is_tags is_utf8 chars
keyed_type_twice =
    with_key (codes "k1") (new_type Check.Never) refl
    ∷ with_key (codes "k1") (new_type Check.Never) refl
    ∷ with_key (codes "k1") (new_board (codes "b1") []) refl
    ∷ with_key (codes "k2") (new_board (codes "b1") []) refl
    ∷ []

-- the last moment is good, and the next one is not
unfoldable pub last_moment : List Call
unfolding is_proper_cmd is_word is_tag is_tags is_utf8 chars
last_moment =
    by_admin 250000000001 (new_type Check.Never) refl
    ∷ by_admin 250000000000 (new_type Check.Never) refl
    ∷ by_admin 250000000000 (new_board (codes "b1") []) refl
    ∷ by_ann 250000000000 any_board refl
    ∷ []

-- what each script answers and leaves
pub record AllAsWorked : Type 0 where
  pub all_fourteen_commands_answers : answers empty_farm all_fourteen_commands ≡ each_did
  pub all_fourteen_commands_number_count : (run empty_farm all_fourteen_commands).count ≡ 15
  pub all_fourteen_commands_number_clock : (run empty_farm all_fourteen_commands).clock ≡ 80
  pub all_fourteen_commands_number_next : (run empty_farm all_fourteen_commands).next ≡ 3
  pub all_fourteen_commands_job_1 : job_shows (run empty_farm all_fourteen_commands) 1 ≡ Some (JobState.Finished, Some (codes "b1"), Some Outcome.Canceled)
  pub all_fourteen_commands_reservation_2 : res_shows (run empty_farm all_fourteen_commands) 2 ≡ Some (ResState.Canceled, Some (codes "b1"), 130)
  pub all_fourteen_commands_board__b1 : board_shows (run empty_farm all_fourteen_commands) (codes "b1") ≡ Some (Health.Good, State.Idle, Holder.Nobody, 1, 0)
  pub pass_on_empty_farm_answers : answers empty_farm pass_on_empty_farm ≡ passed 0 0 0 ∷ []
  pub pass_on_empty_farm_number_count : (run empty_farm pass_on_empty_farm).count ≡ 1
  pub pass_on_empty_farm_number_clock : (run empty_farm pass_on_empty_farm).clock ≡ 1700000000
  pub same_type_twice_answers : answers empty_farm same_type_twice ≡ did 0 ∷ Denied 11 ∷ []
  pub same_type_twice_number_count : (run empty_farm same_type_twice).count ≡ 1
  pub same_type_twice_number_clock : (run empty_farm same_type_twice).clock ≡ 10
  pub keyed_type_twice_answers : answers empty_farm keyed_type_twice ≡ did 0 ∷ Repeated (reply_of 0 0 0) ∷ Denied 40 ∷ did 0 ∷ []
  pub keyed_type_twice_number_count : (run empty_farm keyed_type_twice).count ≡ 2
  pub last_moment_answers : answers empty_farm last_moment ≡ Denied 2 ∷ did 0 ∷ did 0 ∷ did 1 ∷ []
  pub last_moment_reservation_1 : res_shows (run empty_farm last_moment) 1 ≡ Some (ResState.Waiting, None, 250000000060)
  pub last_moment_number_count : (run empty_farm last_moment).count ≡ 3
