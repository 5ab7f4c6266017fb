-- Worked scripts of a group's rows, from its submission to its end.
use Rattle.std.specs.Prelude.{◌≡◌, List, [], ◌∷◌, Some, None, codes, refl, false}
use Rattle.std.specs.Char.{encode_utf8}
use Rattle.std.specs.Str.{is_utf8, chars}
use Rattle.farm_types.specs.Names.{empty_farm, Farm, is_proper_cmd, is_tag, is_tags, is_word, new_board as board_row, new_job, run}
use Rattle.farm_types.specs.declared.calls.Call.{Call}
use Rattle.farm_types.specs.declared.rows.Check.{Check}
use Rattle.farm_types.specs.declared.calls.Cmd.{Cmd}
use Rattle.farm_types.specs.declared.rows.Health.{Health}
use Rattle.farm_types.specs.declared.rows.Holder.{Holder}
use Rattle.farm_types.specs.declared.rows.JobRow.{JobRow}
use Rattle.farm_types.specs.declared.rows.JobState.{JobState}
use Rattle.farm_types.specs.declared.rows.Outcome.{Outcome}
use Rattle.farm_types.specs.declared.rows.State.{State}
use Rattle.farm_worked.specs.Worked.{answers, did, passed, by_admin, by_dispatcher, by_ann, new_type, new_board, set, a_board}

-- boards are added out of order, and ann asks for two with a role each and one text
unfoldable pub group_asks : List Call
unfolding is_proper_cmd is_word is_tag is_tags is_utf8 chars encode_utf8
group_asks =
    by_admin 10 (new_type Check.Never) refl
    ∷ by_admin 10 (new_board (codes "b2") []) refl
    ∷ by_admin 10 (set (codes "b2") Health.Good) refl
    ∷ by_admin 10 (new_board (codes "b1") (codes "hdmi" ∷ [])) refl
    ∷ by_admin 10 (set (codes "b1") Health.Good) refl
    ∷ by_ann 20 (Cmd.Submit 70 (a_board [] ∷ a_board (codes "hdmi" ∷ []) ∷ []) (Some (codes "client") ∷ Some (codes "server") ∷ []) (codes "two boards")) refl
    ∷ []

-- both members; only the first carries the text
abbrev pub client : JobRow
client = record (new_job 0 0 [] 0 (a_board []) None []) {
  number = 1;
  group = 1;
  checking = false;
  owner = codes "ann";
  priority = 70;
  want = a_board [];
  role = Some (codes "client");
  state = JobState.Submitted;
  outcome = None;
  board = None;
  body = codes "two boards";
}

abbrev pub server : JobRow
server = record client { number = 2; want = a_board (codes "hdmi" ∷ []); role = Some (codes "server"); body = [] }

abbrev pub after_group_asks : Farm
after_group_asks = record {
  types = record { name = codes "bbb"; check = Check.Never } ∷ [];
  boards =
      record (board_row (codes "b1") (codes "bbb") (codes "hdmi" ∷ [])) { health = Health.Good }
      ∷ record (board_row (codes "b2") (codes "bbb") []) { health = Health.Good }
      ∷ [];
  jobs =
      client
      ∷ server
      ∷ [];
  reservations = [];
  kept = [];
  clock = 20;
  collector = 0;
  count = 6;
  next = 3;
}

-- a pass gives each member the board of the least list
unfoldable pub group_is_served : List Call
unfolding is_proper_cmd is_word is_tag is_tags is_utf8 chars encode_utf8
group_is_served =
    by_dispatcher 30 Cmd.Pass refl
    ∷ []

abbrev pub after_group_is_served : Farm
after_group_is_served = record after_group_asks {
  boards =
      record (board_row (codes "b1") (codes "bbb") (codes "hdmi" ∷ [])) { health = Health.Good; state = State.Reserved; holder = Holder.Job 2 }
      ∷ record (board_row (codes "b2") (codes "bbb") []) { health = Health.Good; state = State.Reserved; holder = Holder.Job 1 }
      ∷ [];
  jobs =
      record client { state = JobState.Scheduled; board = Some (codes "b2") }
      ∷ record server { state = JobState.Scheduled; board = Some (codes "b1") }
      ∷ [];
  clock = 30;
  count = 7;
}

-- one Start starts both
unfoldable pub group_starts : List Call
unfolding is_proper_cmd is_word is_tag is_tags is_utf8 chars encode_utf8
group_starts =
    by_dispatcher 31 (Cmd.Start 2) refl
    ∷ []

abbrev pub after_group_starts : Farm
after_group_starts = record after_group_asks {
  boards =
      record (board_row (codes "b1") (codes "bbb") (codes "hdmi" ∷ [])) { health = Health.Good; state = State.Running; holder = Holder.Job 2 }
      ∷ record (board_row (codes "b2") (codes "bbb") []) { health = Health.Good; state = State.Running; holder = Holder.Job 1 }
      ∷ [];
  jobs =
      record client { state = JobState.Running; board = Some (codes "b2") }
      ∷ record server { state = JobState.Running; board = Some (codes "b1") }
      ∷ [];
  clock = 31;
  count = 8;
}

-- one member ends, and ann cancels the rest
unfoldable pub one_member_ends : List Call
unfolding is_proper_cmd is_word is_tag is_tags is_utf8 chars encode_utf8
one_member_ends =
    by_dispatcher 40 (Cmd.Finish 1 Outcome.Incomplete) refl
    ∷ by_ann 41 (Cmd.Cancel 1) refl
    ∷ []

-- the Finished one keeps its board's name and its outcome; the Canceling one holds its board yet
abbrev pub after_one_member_ends : Farm
after_one_member_ends = record after_group_asks {
  boards =
      record (board_row (codes "b1") (codes "bbb") (codes "hdmi" ∷ [])) { health = Health.Good; state = State.Running; holder = Holder.Job 2 }
      ∷ record (board_row (codes "b2") (codes "bbb") []) { health = Health.Good; jobs_since = 1 }
      ∷ [];
  jobs =
      record client { state = JobState.Finished; outcome = Some Outcome.Incomplete; board = Some (codes "b2") }
      ∷ record server { state = JobState.Canceling; board = Some (codes "b1") }
      ∷ [];
  clock = 41;
  count = 10;
}

-- the other one ends as canceled, whatever is named
unfoldable pub the_other_ends : List Call
unfolding is_proper_cmd is_word is_tag is_tags is_utf8 chars encode_utf8
the_other_ends =
    by_dispatcher 42 (Cmd.Finish 2 Outcome.Complete) refl
    ∷ []

abbrev pub after_the_other_ends : Farm
after_the_other_ends = record after_group_asks {
  boards =
      record (board_row (codes "b1") (codes "bbb") (codes "hdmi" ∷ [])) { health = Health.Good; jobs_since = 1 }
      ∷ record (board_row (codes "b2") (codes "bbb") []) { health = Health.Good; jobs_since = 1 }
      ∷ [];
  jobs =
      record client { state = JobState.Finished; outcome = Some Outcome.Incomplete; board = Some (codes "b2") }
      ∷ record server { state = JobState.Finished; outcome = Some Outcome.Canceled; board = Some (codes "b1") }
      ∷ [];
  clock = 42;
  count = 11;
}

-- a group that is canceled while it waits had no boards
unfoldable pub canceled_while_it_waits : List Call
unfolding is_proper_cmd is_word is_tag is_tags is_utf8 chars encode_utf8
canceled_while_it_waits =
    by_admin 25 (Cmd.Cancel 2) refl
    ∷ []

abbrev pub after_canceled_while_it_waits : Farm
after_canceled_while_it_waits = record after_group_asks {
  jobs =
      record client { state = JobState.Finished; outcome = Some Outcome.Canceled }
      ∷ record server { state = JobState.Finished; outcome = Some Outcome.Canceled }
      ∷ [];
  clock = 25;
  count = 7;
}

-- with b2 in maintenance the first member takes the board with hdmi, which the second lacks then
unfoldable pub first_member_collects : List Call
unfolding is_proper_cmd is_word is_tag is_tags is_utf8 chars encode_utf8
first_member_collects =
    by_admin 22 (set (codes "b2") Health.Maintenance) refl
    ∷ by_dispatcher 23 Cmd.Pass refl
    ∷ []

abbrev pub after_first_member_collects : Farm
after_first_member_collects = record after_group_asks {
  boards =
      record (board_row (codes "b1") (codes "bbb") (codes "hdmi" ∷ [])) { health = Health.Good; state = State.Reserved; holder = Holder.Job 1 }
      ∷ board_row (codes "b2") (codes "bbb") []
      ∷ [];
  jobs =
      record client { state = JobState.Scheduling; board = Some (codes "b1") }
      ∷ server
      ∷ [];
  clock = 23;
  collector = 1;
  count = 8;
}

-- the next pass takes it back, and gives each member the board of the least list
unfoldable pub boards_are_taken_back : List Call
unfolding is_proper_cmd is_word is_tag is_tags is_utf8 chars encode_utf8
boards_are_taken_back =
    by_admin 29 (set (codes "b2") Health.Good) refl
    ∷ by_dispatcher 30 Cmd.Pass refl
    ∷ []

abbrev pub after_boards_are_taken_back : Farm
after_boards_are_taken_back = record after_group_is_served { count = 10 }

-- canceled while it collects, the first member keeps the name of its board, and none collects
unfoldable pub canceled_while_it_collects : List Call
unfolding is_proper_cmd is_word is_tag is_tags is_utf8 chars encode_utf8
canceled_while_it_collects =
    by_ann 24 (Cmd.Cancel 2) refl
    ∷ []

abbrev pub after_canceled_while_it_collects : Farm
after_canceled_while_it_collects = record after_group_asks {
  boards =
      record (board_row (codes "b1") (codes "bbb") (codes "hdmi" ∷ [])) { health = Health.Good }
      ∷ board_row (codes "b2") (codes "bbb") []
      ∷ [];
  jobs =
      record client { state = JobState.Finished; outcome = Some Outcome.Canceled; board = Some (codes "b1") }
      ∷ record server { state = JobState.Finished; outcome = Some Outcome.Canceled }
      ∷ [];
  clock = 24;
  count = 9;
}

-- what each script answers and leaves
pub record GroupsAsWorked : Type 0 where
  pub group_asks_answers : answers empty_farm group_asks ≡ did 0 ∷ did 0 ∷ did 0 ∷ did 0 ∷ did 0 ∷ did 1 ∷ []
  pub group_asks_leaves : run empty_farm group_asks ≡ after_group_asks
  pub group_is_served_answers : answers after_group_asks group_is_served ≡ passed 0 0 1 ∷ []
  pub group_is_served_leaves : run after_group_asks group_is_served ≡ after_group_is_served
  pub group_starts_answers : answers after_group_is_served group_starts ≡ did 1 ∷ []
  pub group_starts_leaves : run after_group_is_served group_starts ≡ after_group_starts
  pub one_member_ends_answers : answers after_group_starts one_member_ends ≡ did 1 ∷ did 1 ∷ []
  pub one_member_ends_leaves : run after_group_starts one_member_ends ≡ after_one_member_ends
  pub the_other_ends_answers : answers after_one_member_ends the_other_ends ≡ did 2 ∷ []
  pub the_other_ends_leaves : run after_one_member_ends the_other_ends ≡ after_the_other_ends
  pub canceled_while_it_waits_answers : answers after_group_asks canceled_while_it_waits ≡ did 1 ∷ []
  pub canceled_while_it_waits_leaves : run after_group_asks canceled_while_it_waits ≡ after_canceled_while_it_waits
  pub first_member_collects_answers : answers after_group_asks first_member_collects ≡ did 0 ∷ passed 0 0 0 ∷ []
  pub first_member_collects_leaves : run after_group_asks first_member_collects ≡ after_first_member_collects
  pub boards_are_taken_back_answers : answers after_first_member_collects boards_are_taken_back ≡ did 0 ∷ passed 0 0 1 ∷ []
  pub boards_are_taken_back_leaves : run after_first_member_collects boards_are_taken_back ≡ after_boards_are_taken_back
  pub canceled_while_it_collects_answers : answers after_first_member_collects canceled_while_it_collects ≡ did 1 ∷ []
  pub canceled_while_it_collects_leaves : run after_first_member_collects canceled_while_it_collects ≡ after_canceled_while_it_collects
