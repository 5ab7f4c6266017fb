-- Worked scripts of reservations beside jobs: one counter of numbers, and deadlines.
use Rattle.std.specs.Prelude.{◌≡◌, ℕ, List, [], ◌∷◌, Some, None, codes, refl}
use Rattle.std.specs.Str.{is_utf8, chars}
use Rattle.farm_types.specs.Names.{empty_farm, Farm, is_proper_cmd, is_tag, is_tags, is_word, new_board as board_row, new_job, new_res, run}
use Rattle.farm_types.specs.declared.calls.Call.{Call}
use Rattle.farm_types.specs.declared.rows.Check.{Check}
use Rattle.farm_types.specs.declared.calls.Cmd.{Cmd}
use Rattle.farm_types.specs.declared.rows.Health.{Health}
use Rattle.farm_types.specs.declared.rows.Holder.{Holder}
use Rattle.farm_types.specs.declared.rows.JobRow.{JobRow}
use Rattle.farm_types.specs.declared.rows.JobState.{JobState}
use Rattle.farm_types.specs.declared.rows.ResRow.{ResRow}
use Rattle.farm_types.specs.declared.rows.ResState.{ResState}
use Rattle.farm_types.specs.declared.rows.State.{State}
use Rattle.farm_worked.specs.Worked.{answers, did, passed, by_admin, by_dispatcher, by_ann, by_bob, new_type, new_board, set, a_board, single, pair, any_board}

-- jobs and reservations draw their numbers from one counter
unfoldable pub one_counter : List Call
unfolding is_proper_cmd is_word is_tag is_tags is_utf8 chars
one_counter =
    by_admin 10 (new_type Check.Never) refl
    ∷ by_admin 10 (new_board (codes "b1") []) refl
    ∷ by_admin 10 (new_board (codes "b2") []) refl
    ∷ by_ann 20 any_board refl
    ∷ by_bob 21 (pair []) refl
    ∷ by_bob 22 (Cmd.Reserve 60 (codes "name=b1" ∷ [])) refl
    ∷ by_ann 23 (single 0) refl
    ∷ []

-- a member of bob's group of two, and ann's job
abbrev pub bob_member : ℕ → JobRow
bob_member n = new_job n 2 (codes "bob") 50 (a_board []) None []

abbrev pub ann_job : JobRow
ann_job = new_job 5 5 (codes "ann") 0 (a_board []) None []

-- a reservation's deadline is 60 seconds behind its moment
abbrev pub ann_reservation : ResRow
ann_reservation = record {
  number = 1;
  owner = codes "ann";
  priority = 50;
  want = record { kind = None; tags = [] };
  state = ResState.Waiting;
  deadline = 80;
  board = None;
}

abbrev pub bob_reservation : ResRow
bob_reservation = new_res 4 (codes "bob") 60 (codes "name=b1" ∷ []) 82

-- a new board is in Maintenance
abbrev pub after_one_counter : Farm
after_one_counter = record {
  types = record { name = codes "bbb"; check = Check.Never } ∷ [];
  boards =
      board_row (codes "b1") (codes "bbb") []
      ∷ board_row (codes "b2") (codes "bbb") []
      ∷ [];
  jobs =
      bob_member 2
      ∷ bob_member 3
      ∷ ann_job
      ∷ [];
  reservations =
      ann_reservation
      ∷ bob_reservation
      ∷ [];
  kept = [];
  clock = 23;
  collector = 0;
  count = 7;
  next = 6;
}

-- the one that goes first is given the board that it names, for 60 seconds; bob's group collects, and finds none
unfoldable pub lease_begins : List Call
unfolding is_proper_cmd is_word is_tag is_tags is_utf8 chars
lease_begins =
    by_admin 30 (set (codes "b1") Health.Good) refl
    ∷ by_dispatcher 40 Cmd.Pass refl
    ∷ []

abbrev pub after_lease_begins : Farm
after_lease_begins = record after_one_counter {
  boards =
      record (board_row (codes "b1") (codes "bbb") []) { health = Health.Good; state = State.Reserved; holder = Holder.Res 4 }
      ∷ board_row (codes "b2") (codes "bbb") []
      ∷ [];
  reservations =
      ann_reservation
      ∷ record bob_reservation { state = ResState.Allocated; deadline = 100; board = Some (codes "b1") }
      ∷ [];
  clock = 40;
  collector = 2;
  count = 9;
}

-- bob acquires his, and ann's waits past its deadline: it never had a board
unfoldable pub one_is_acquired : List Call
unfolding is_proper_cmd is_word is_tag is_tags is_utf8 chars
one_is_acquired =
    by_bob 50 (Cmd.Acquire 4) refl
    ∷ by_dispatcher 101 Cmd.Pass refl
    ∷ []

abbrev pub after_one_is_acquired : Farm
after_one_is_acquired = record after_one_counter {
  boards =
      record (board_row (codes "b1") (codes "bbb") []) { health = Health.Good; state = State.Running; holder = Holder.Res 4 }
      ∷ board_row (codes "b2") (codes "bbb") []
      ∷ [];
  reservations =
      record ann_reservation { state = ResState.Expired }
      ∷ record bob_reservation { state = ResState.Acquired; deadline = 100; board = Some (codes "b1") }
      ∷ [];
  clock = 101;
  collector = 2;
  count = 11;
}

-- a released one has 60 seconds again, a refreshed one too
unfoldable pub lease_goes_on : List Call
unfolding is_proper_cmd is_word is_tag is_tags is_utf8 chars
lease_goes_on =
    by_bob 200 (Cmd.Release 4) refl
    ∷ by_bob 210 (Cmd.Refresh 4) refl
    ∷ []

abbrev pub after_lease_goes_on : Farm
after_lease_goes_on = record after_one_counter {
  boards =
      record (board_row (codes "b1") (codes "bbb") []) { health = Health.Good; state = State.Reserved; holder = Holder.Res 4 }
      ∷ board_row (codes "b2") (codes "bbb") []
      ∷ [];
  reservations =
      record ann_reservation { state = ResState.Expired }
      ∷ record bob_reservation { state = ResState.Allocated; deadline = 270; board = Some (codes "b1") }
      ∷ [];
  clock = 210;
  collector = 2;
  count = 13;
}

-- at its deadline it expires and keeps its board's name, and the same pass gives the board to the group that collects
unfoldable pub lease_is_over : List Call
unfolding is_proper_cmd is_word is_tag is_tags is_utf8 chars
lease_is_over =
    by_dispatcher 270 Cmd.Pass refl
    ∷ by_ann 281 (Cmd.Reserve 100 []) refl
    ∷ by_ann 282 (Cmd.CancelRes 6) refl
    ∷ []

abbrev pub after_lease_is_over : Farm
after_lease_is_over = record after_one_counter {
  boards =
      record (board_row (codes "b1") (codes "bbb") []) { health = Health.Good; state = State.Reserved; holder = Holder.Job 2 }
      ∷ board_row (codes "b2") (codes "bbb") []
      ∷ [];
  jobs =
      record (bob_member 2) { state = JobState.Scheduling; board = Some (codes "b1") }
      ∷ bob_member 3
      ∷ ann_job
      ∷ [];
  reservations =
      record ann_reservation { state = ResState.Expired }
      ∷ record bob_reservation { state = ResState.Expired; deadline = 270; board = Some (codes "b1") }
      ∷ record (new_res 6 (codes "ann") 100 [] 341) { state = ResState.Canceled }
      ∷ [];
  clock = 282;
  collector = 2;
  count = 16;
  next = 7;
}

-- what each script answers and leaves
pub record ReservationsAsWorked : Type 0 where
  pub one_counter_answers : answers empty_farm one_counter ≡ did 0 ∷ did 0 ∷ did 0 ∷ did 1 ∷ did 2 ∷ did 4 ∷ did 5 ∷ []
  pub one_counter_leaves : run empty_farm one_counter ≡ after_one_counter
  pub lease_begins_answers : answers after_one_counter lease_begins ≡ did 0 ∷ passed 0 0 1 ∷ []
  pub lease_begins_leaves : run after_one_counter lease_begins ≡ after_lease_begins
  pub one_is_acquired_answers : answers after_lease_begins one_is_acquired ≡ did 4 ∷ passed 0 1 0 ∷ []
  pub one_is_acquired_leaves : run after_lease_begins one_is_acquired ≡ after_one_is_acquired
  pub lease_goes_on_answers : answers after_one_is_acquired lease_goes_on ≡ did 4 ∷ did 4 ∷ []
  pub lease_goes_on_leaves : run after_one_is_acquired lease_goes_on ≡ after_lease_goes_on
  pub lease_is_over_answers : answers after_lease_goes_on lease_is_over ≡ passed 0 1 0 ∷ did 6 ∷ did 6 ∷ []
  pub lease_is_over_leaves : run after_lease_goes_on lease_is_over ≡ after_lease_is_over
