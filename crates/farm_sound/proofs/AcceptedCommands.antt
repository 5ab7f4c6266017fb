-- The commands, where they aren't refused: what they leave.
use Rattle.std.proofs.Common.{[], Bool, IfSome, IsSome, IsSomeAnd, IsTrue, List, None, Option, Some, ap, arith, false, is_none, is_some, length, nat_le, not}
use Rattle.std.proofs.Common.{refl, subst, sym, true, ℕ, ◌&&◌, ◌+◌, ◌==◌, ◌||◌, ◌∙◌, ◌∷◌, ◌≡◌}
use Rattle.farm_sound.proofs.Names.{AllByRecursion-weaker, board_of, BoardRow, bytes_eq, Cmd, Farm, filter, Health, is_utf8, job_of, JobRow}
use Rattle.farm_sound.proofs.Names.{JobState, list_all, list_any, members, nat_tests, option_map_or, put_board, res_of, ResRow, ResState, State, type_of, Want}
use Rattle.farm_types.specs.Names.{act, board_exists, board_is_held, board_is_retired, can_cancel, cancel_group, checks, done_with, expire, finish_one}
use Rattle.farm_types.specs.Names.{first_code, forbidden, giving_back, has_no_name_tag, has_room, is_alive, is_dead, is_frequency, is_nobody, is_priority}
use Rattle.farm_types.specs.Names.{is_proper_cmd, is_retired, is_tags, is_want, is_word, IsName, IsSound, job_is, least, longest_name, longest_text}
use Rattle.farm_types.specs.Names.{most_boards, most_boards_of_type, most_jobs, most_reservations, new_board, no_board, no_job, no_reservation, no_such_boards}
use Rattle.farm_types.specs.Names.{no_type, not_retired, numbers_end, owned_by, res_is, res_reasons, reservation_expired, same_health, same_job_state}
use Rattle.farm_types.specs.Names.{same_res_state, start_group, wrong_job_state, wrong_reservation_state}
use Rattle.farm_sound.proofs.Accepted.{Acted, IsAccepted, acted_one, low_job, low_res}
use Rattle.farm_sound.proofs.Boards.{IsSound-put_board, IsSound-put_type, IsSound-replace_board}
use Rattle.farm_sound.proofs.Clear.{IsSome-from, first_clear, none_of, passes, some_of}
use Rattle.farm_sound.proofs.Tests.{acquired_from, allocated_from, both, both_false, not_false, retired_idle, same_number, scheduled_from, started_from}
use Rattle.farm_sound.proofs.Jobs.{IsSound-back, IsSound-cancel, IsSound-finish, IsSound-start}
use Rattle.farm_sound.proofs.Lists.{all_tested, length_filter, none_passes}
use Rattle.farm_sound.proofs.Submit.{IsSound-submit}
use Rattle.farm_sound.proofs.Where.{AllByRecursion-both}
use Rattle.farm_sound.proofs.Checks.{IsSound-checks}
use Rattle.farm_sound.proofs.Own.{only_res}
use Rattle.farm_sound.proofs.Replies.{few_served, pass_kept}
use Rattle.farm_sound.proofs.Reservations.{IsSound-cancel_res, IsSound-expire, IsSound-refresh, IsSound-reserve, goes_on}
use Rattle.farm_sound.proofs.Passed.{IsSound-pass}

wanted : (F : Farm) (w : Want) → (option_map_or (λ kind. is_none (type_of F kind)) w.kind false) ≡ false → (is_some w.kind && is_want w) ≡ true
    → IsSomeAnd w.kind (λ kind. IsSome (type_of F kind)) × IsTrue (is_want w)
wanted F w clear proper = grind arith

named : (r : Option (List ℕ)) → option_map_or (is_word longest_name) r true ≡ true → IfSome r IsName
named None is = tt
named (Some role) is = is

-- the reservation of one of the four commands is there, and in a right state
right_res : (F : Farm) (t n : ℕ) (mine right : ResRow → Bool) → first_code (res_reasons F t n mine right) ≡ None
    → (r : ResRow) × (res_of F n ≡ Some r) × (right r ≡ true)
right_res F t n mine right is =
    let others = not (res_is F n mine) in
    let late = res_is F n (λ r. same_res_state r.state ResState.Expired || is_dead t r) in
    let wrong = not (res_is F n right) in
    let there = first_clear (is_none (res_of F n)) no_reservation ((others, forbidden) ∷ (late, reservation_expired) ∷ (wrong, wrong_reservation_state) ∷ []) is in
    let owned = first_clear others forbidden ((late, reservation_expired) ∷ (wrong, wrong_reservation_state) ∷ []) there.1 in
    let alive = first_clear late reservation_expired ((wrong, wrong_reservation_state) ∷ []) owned.1 in
    let r = some_of (res_of F n) there.0 in
    (r.0, r.1, passes right (res_of F n) r.0 r.1 (first_clear wrong wrong_reservation_state [] alive.1).0)

-- each command, where it isn't refused
pub acted : (F : Farm) (t : ℕ) (caller : List ℕ) (cmd : Cmd) → IsAccepted F t caller cmd → IsSound F → Acted F (act F caller cmd)
unfolding is_proper_cmd
acted F t caller (Cmd.AddType name check) is sound =
    let words = both (is_word longest_name name) (is_frequency check) is.proper in
    let room = is.room in
    acted_one F (act F caller (Cmd.AddType name check)).farm 0 refl (omega arith)
    (IsSound-put_type F (record { name = name; check = check }) (record { name = words.0; check = words.1 }) (grind (arith, nat_tests)) sound)
acted F t caller (Cmd.AddBoard name kind tags) is sound =
    let words = both (is_word longest_name name && is_word longest_name kind && is_tags tags) (has_no_name_tag tags) is.proper in
    let more = both (is_word longest_name name && is_word longest_name kind) (is_tags tags) words.0 in
    let names = both (is_word longest_name name) (is_word longest_name kind) more.0 in
    let typed = first_clear (is_none (type_of F kind)) no_type ((is_some (board_of F name), board_exists) ∷ []) is.clear in
    let absent = first_clear (is_some (board_of F name)) board_exists [] typed.1 in
    let rooms = both_false (nat_le most_boards (length F.boards)) (nat_le most_boards_of_type (length (filter (λ b. bytes_eq b.kind kind) F.boards))) is.room in
    acted_one F (put_board F (new_board name kind tags)) 0 refl (omega arith)
    (IsSound-put_board F (new_board name kind tags)
    (record {
      words = record { name = names.0; tags = more.1; no_name_tag = words.1 };
      kind = IsSome-from (type_of F kind) typed.0;
      counts = grind (arith);
      checked = omega arith;
      retired = λ _. refl;
    })
    (none_of (board_of F name) absent.0) refl refl (let r = rooms.0 in grind (arith, nat_tests)) (let r = rooms.1 in grind (arith, nat_tests)) sound)
acted F t caller (Cmd.SetTags name tags) is sound =
    let words = both (is_word longest_name name && is_tags tags) (has_no_name_tag tags) is.proper in
    let more = both (is_word longest_name name) (is_tags tags) words.0 in
    let clear = first_clear (is_none (board_of F name)) no_board ((option_map_or is_retired (board_of F name) false, board_is_retired) ∷ []) is.clear in
    let b = some_of (board_of F name) clear.0 in
    subst (λ o. Acted F (done_with 0 (option_map_or (λ b. put_board F (record b { tags = tags })) o F))) (sym b.1)
    (acted_one F (put_board F (record b.0 { tags = tags })) 0 refl (omega arith)
    (IsSound-replace_board F name b.0 (record b.0 { tags = tags }) b.1 (record { name = refl; kind = refl; holder = refl; state = refl })
    (λ old. record {
      words = record { name = old.words.name; tags = more.1; no_name_tag = words.1 };
      kind = old.kind;
      counts = old.counts;
      checked = old.checked;
      retired = old.retired;
    }) sound))
acted F t caller (Cmd.SetHealth name health) is sound =
    let last = λ (o : Option BoardRow). same_health health Health.Retired && option_map_or (λ b. not (is_nobody b.holder)) o false in
    let clear = first_clear (is_none (board_of F name)) no_board
    ((option_map_or is_retired (board_of F name) false, board_is_retired) ∷ (last (board_of F name), board_is_held) ∷ []) is.clear in
    let b = some_of (board_of F name) clear.0 in
    let second = first_clear (option_map_or is_retired (board_of F name) false) board_is_retired ((last (board_of F name), board_is_held) ∷ []) clear.1 in
    let third = first_clear (last (board_of F name)) board_is_held [] second.1 in
    subst (λ o. Acted F (done_with 0 (option_map_or (λ b. put_board F (record b { health = health })) o F))) (sym b.1)
    (acted_one F (put_board F (record b.0 { health = health })) 0 refl (omega arith)
    (IsSound-replace_board F name b.0 (record b.0 { health = health }) b.1 (record { name = refl; kind = refl; holder = refl; state = refl })
    (λ old. record {
      words = old.words;
      kind = old.kind;
      counts = old.counts;
      checked = old.checked;
      retired = retired_idle health b.0.holder (sym (ap last b.1) ∙ third.0);
    }) sound))
acted F t caller (Cmd.Submit priority wants roles body) is sound =
    let kinds = λ (w : Want). option_map_or (λ kind. is_none (type_of F kind)) w.kind false in
    let full = λ (w : Want). is_some w.kind && is_want w in
    let words = λ (r : Option (List ℕ)). option_map_or (is_word longest_name) r true in
    let first = is_priority priority && nat_le 1 (length wants) in
    let second = first && nat_le (length wants) 4 in
    let third = second && list_all full wants in
    let fourth = third && (length roles == length wants) in
    let fifth = fourth && list_all words roles in
    let p7 = both (fifth && nat_le (length body) longest_text) (is_utf8 body) is.proper in
    let p6 = both fifth (nat_le (length body) longest_text) p7.0 in
    let p5 = both fourth (list_all words roles) p6.0 in
    let p4 = both third (length roles == length wants) p5.0 in
    let p3 = both second (list_all full wants) p4.0 in
    let p2 = both first (nat_le (length wants) 4) p3.0 in
    let p1 = both (is_priority priority) (nat_le 1 (length wants)) p2.0 in
    let clear = first_clear (list_any kinds wants) no_type ((is_none (least F.boards not_retired wants), no_such_boards) ∷ []) is.clear in
    let room = both (nat_le (length F.jobs + length wants) most_jobs) (nat_le (F.next + length wants) numbers_end)
    (not_false (has_room F (length wants)) is.room) in
    acted_one F (act F caller (Cmd.Submit priority wants roles body)).farm F.next refl sound.steady.next.1
    (IsSound-submit F caller priority wants roles body sound is.caller p1.0 (let e = p6.1 in grind (arith, nat_tests)) p7.1
    (AllByRecursion-weaker (λ w two. wanted F w two.0 two.1) wants
    (AllByRecursion-both (λ w. kinds w ≡ false) (λ w. full w ≡ true) wants (none_passes kinds wants clear.0) (all_tested full wants p3.1)))
    (AllByRecursion-weaker named roles (all_tested words roles p5.1)) (same_number (length roles) (length wants) p4.1)
    (let e = p2.1 in grind (arith, nat_tests)) (let e = room.0 in grind (arith, nat_tests)) (let e = room.1 in grind (arith, nat_tests)))
acted F t caller (Cmd.Cancel n) is sound =
    let owned = not (job_is F n (λ j. owned_by caller j.owner)) in
    let can = not (job_is F n (λ j. list_any can_cancel (members F j.group))) in
    let clear = first_clear (is_none (job_of F n)) no_job ((owned, forbidden) ∷ (can, wrong_job_state) ∷ []) is.clear in
    let j = some_of (job_of F n) clear.0 in
    subst (λ o. Acted F (option_map_or (λ j. done_with j.group (cancel_group j.group F)) o (done_with 0 F))) (sym j.1)
    (acted_one F (cancel_group j.0.group F) j.0.group refl (low_job F n j.0 j.1 sound).1 (IsSound-cancel F j.0.group sound))
acted F t caller (Cmd.Start n) is sound =
    let test = λ (j : JobRow). same_job_state j.state JobState.Scheduled in
    let clear = first_clear (is_none (job_of F n)) no_job ((not (option_map_or test (job_of F n) false), wrong_job_state) ∷ []) is.clear in
    let j = some_of (job_of F n) clear.0 in
    let ready = passes test (job_of F n) j.0 j.1 (first_clear (not (option_map_or test (job_of F n) false)) wrong_job_state [] clear.1).0 in
    subst (λ o. Acted F (option_map_or (λ j. done_with j.group (start_group j.group F)) o (done_with 0 F))) (sym j.1)
    (acted_one F (start_group j.0.group F) j.0.group refl (low_job F n j.0 j.1 sound).1
    (IsSound-start F n j.0 j.1 (scheduled_from j.0.state ready) sound))
acted F t caller (Cmd.Finish n outcome) is sound =
    let test = λ (j : JobRow). same_job_state j.state JobState.Running || same_job_state j.state JobState.Canceling in
    let clear = first_clear (is_none (job_of F n)) no_job ((not (option_map_or test (job_of F n) false), wrong_job_state) ∷ []) is.clear in
    let j = some_of (job_of F n) clear.0 in
    let going = started_from j.0.state (passes test (job_of F n) j.0 j.1 (first_clear (not (option_map_or test (job_of F n) false)) wrong_job_state [] clear.1).0) in
    subst (λ o. Acted F (option_map_or (λ j. done_with n (finish_one F.clock outcome F j)) o (done_with 0 F))) (sym j.1)
    (acted_one F (finish_one F.clock outcome F j.0) n refl (low_job F n j.0 j.1 sound).0
    (IsSound-finish F n j.0 outcome j.1 going.0 going.1 sound))
acted F t caller (Cmd.Reserve priority tags) is sound =
    let words = both (is_priority priority) (is_tags tags) is.proper in
    let rooms = both_false (nat_le most_reservations (length F.reservations)) (nat_le numbers_end F.next) is.room in
    acted_one F (act F caller (Cmd.Reserve priority tags)).farm F.next refl sound.steady.next.1
    (IsSound-reserve F caller priority tags is.caller words.0 words.1 (let r = rooms.0 in grind (arith, nat_tests))
    (let r = rooms.1 in grind (arith, nat_tests)) sound)
acted F t caller (Cmd.Acquire n) is sound =
    let r = right_res F t n (λ r. bytes_eq caller r.owner) (λ r. same_res_state r.state ResState.Allocated) is.clear in
    acted_one F (act F caller (Cmd.Acquire n)).farm n refl (low_res F n r.0 r.1 sound)
    (goes_on F n ResState.Allocated ResState.Acquired State.Reserved State.Running (λ d. d) (λ k low. low) refl refl
    (AllByRecursion-weaker (λ q one same. ap (λ (x : ResRow). x.state) (one same) ∙ allocated_from r.0.state r.2) F.reservations
    (only_res F sound.steady n r.0 r.1)) sound)
acted F t caller (Cmd.Release n) is sound =
    let r = right_res F t n (λ r. owned_by caller r.owner) (λ r. same_res_state r.state ResState.Acquired) is.clear in
    acted_one F (act F caller (Cmd.Release n)).farm n refl (low_res F n r.0 r.1 sound)
    (goes_on F n ResState.Acquired ResState.Allocated State.Running State.Reserved (λ d. F.clock + 60) (λ k low. omega arith) refl refl
    (AllByRecursion-weaker (λ q one same. ap (λ (x : ResRow). x.state) (one same) ∙ acquired_from r.0.state r.2) F.reservations
    (only_res F sound.steady n r.0 r.1)) sound)
acted F t caller (Cmd.Refresh n) is sound =
    let r = right_res F t n (λ r. owned_by caller r.owner) is_alive is.clear in
    acted_one F (act F caller (Cmd.Refresh n)).farm n refl (low_res F n r.0 r.1 sound) (IsSound-refresh F n sound)
acted F t caller (Cmd.CancelRes n) is sound =
    let r = right_res F t n (λ r. owned_by caller r.owner) is_alive is.clear in
    acted_one F (act F caller (Cmd.CancelRes n)).farm n refl (low_res F n r.0 r.1 sound) (IsSound-cancel_res F n sound)
acted F t caller Cmd.Pass is sound =
    let expired : Farm = expire (giving_back F) F.clock in
    let checked : Farm = checks expired F.clock in
    let steady = (IsSound-checks expired F.clock (IsSound-expire (giving_back F) F.clock (IsSound-back F sound))).steady in
    record {
      sound = IsSound-pass F sound;
      kept = pass_kept expired F.collector F.clock;
      first = omega (arith, steady.next.1);
      second = grind (arith, length_filter (is_dead F.clock) F.reservations, sound.steady.few);
      third = grind (arith, few_served checked F.collector F.clock, steady.few);
    }
