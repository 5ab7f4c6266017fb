-- Worked scripts at the limits: the last number or row that is taken, and the first that isn't. They start from farms that are written out.
use Rattle.std.specs.Prelude.{◌≡◌, ℕ, List, [], ◌∷◌, map, length, Some, None, codes, refl}
use Rattle.std.specs.List.{flat_map}
use Rattle.std.specs.Str.{is_utf8, chars}
use Rattle.farm_types.specs.Names.{Denied, empty_farm, Farm, is_proper_cmd, is_tag, is_tags, is_word, new_board as board_row, new_job, reply_of, run}
use Rattle.farm_types.specs.declared.rows.BoardRow.{BoardRow}
use Rattle.farm_types.specs.declared.calls.Call.{Call}
use Rattle.farm_types.specs.declared.rows.Check.{Check}
use Rattle.farm_types.specs.declared.calls.Cmd.{Cmd}
use Rattle.farm_types.specs.declared.rows.Health.{Health}
use Rattle.farm_types.specs.declared.rows.Holder.{Holder}
use Rattle.farm_types.specs.declared.rows.JobState.{JobState}
use Rattle.farm_types.specs.declared.rows.Outcome.{Outcome}
use Rattle.farm_types.specs.declared.rows.ResState.{ResState}
use Rattle.farm_types.specs.declared.rows.State.{State}
use Rattle.farm_types.specs.declared.rows.TypeRow.{TypeRow}
use Rattle.farm_worked.specs.Worked.{answers, call_under, board_shows, res_shows, did, passed, by_admin, by_dispatcher, by_ann, new_type, a_board, single}
use Rattle.farm_worked.specs.Worked.{any_board}

-- sixty-four names of one byte each, in order: all but the full stop
abbrev pub letters : List ℕ
letters = codes "-0123456789ABCDEFGHIJKLMNOPQRSTUVWXYZ_abcdefghijklmnopqrstuvwxyz"

abbrev pub type_named : ℕ → TypeRow
type_named c = record { name = c ∷ []; check = Check.Never }

abbrev pub board_named : List ℕ → List ℕ → BoardRow
board_named kind name = record (board_row name kind []) { health = Health.Good }

-- ---- types and boards

abbrev pub many_types : Farm
many_types = record empty_farm { types = map type_named letters }

unfoldable pub one_more_type : List Call
unfolding is_proper_cmd is_word is_tag is_tags is_utf8 chars
one_more_type =
    by_admin 10 (Cmd.AddType (codes ".") Check.Never) refl
    ∷ []

abbrev pub fewer_types : Farm
fewer_types = record empty_farm { types = map type_named (codes "-0123456789ABCDEFGHIJKLMNOPQRSTUVWXYZ_abcdefghijklmnopqrstuvwxy") }

-- sixty-four boards of type a, and none of type b
abbrev pub many_boards : Farm
many_boards = record empty_farm {
  types = map type_named (codes "ab");
  boards = map (λ c. board_named (codes "a") (c ∷ [])) letters;
}

unfoldable pub one_more_board : List Call
unfolding is_proper_cmd is_word is_tag is_tags is_utf8 chars
one_more_board =
    by_admin 10 (Cmd.AddBoard (codes ".") (codes "a") []) refl
    ∷ by_admin 10 (Cmd.AddBoard (codes ".") (codes "b") []) refl
    ∷ []

-- sixty-four boards of each of four types, and none of a fifth
abbrev pub all_boards : Farm
all_boards = record empty_farm {
  types = map type_named (codes "abcde");
  boards = flat_map (λ k. map (λ c. board_named (k ∷ []) (k ∷ c ∷ [])) letters) (codes "abcd");
}

unfoldable pub one_more_of_a_fifth_type : List Call
unfolding is_proper_cmd is_word is_tag is_tags is_utf8 chars
one_more_of_a_fifth_type =
    by_admin 10 (Cmd.AddBoard (codes "e1") (codes "e") []) refl
    ∷ []

-- ---- numbers

-- one number is left, for a farm with a due board
abbrev pub last_number : Farm
last_number = record empty_farm {
  types = record { name = codes "bbb"; check = Check.Hours 1 } ∷ [];
  boards =
      record (board_row (codes "b1") (codes "bbb") []) { health = Health.Unknown }
      ∷ [];
  next = 999999999;
}

-- a reservation takes it; then nothing is numbered, and a pass makes no check but is accepted
unfoldable pub numbers_run_out : List Call
unfolding is_proper_cmd is_word is_tag is_tags is_utf8 chars
numbers_run_out =
    call_under (codes "ann") (codes "k1") 20 any_board refl
    ∷ by_ann 21 any_board refl
    ∷ by_ann 22 (single 50) refl
    ∷ by_dispatcher 30 Cmd.Pass refl
    ∷ []

-- one more command is counted
abbrev pub last_count : Farm
last_count = record empty_farm { count = 8999999999999999999 }

unfoldable pub counting_ends : List Call
unfolding is_proper_cmd is_word is_tag is_tags is_utf8 chars
counting_ends =
    by_admin 10 (new_type Check.Never) refl
    ∷ by_admin 11 (new_type Check.Never) refl
    ∷ by_admin 11 (Cmd.AddType (codes "ccc") Check.Never) refl
    ∷ by_dispatcher 12 Cmd.Pass refl
    ∷ []

-- a board that has counted a million jobs since its check runs one more
abbrev pub a_million_jobs : Farm
a_million_jobs = record empty_farm {
  types = record { name = codes "bbb"; check = Check.Never } ∷ [];
  boards =
      record (board_row (codes "b1") (codes "bbb") []) { health = Health.Good; state = State.Running; holder = Holder.Job 1; jobs_since = 1000000 }
      ∷ [];
  jobs =
      record (new_job 1 1 (codes "ann") 50 (a_board []) None []) { state = JobState.Running; board = Some (codes "b1") }
      ∷ [];
  next = 2;
}

unfoldable pub one_more_job : List Call
unfolding is_proper_cmd is_word is_tag is_tags is_utf8 chars
one_more_job =
    by_dispatcher 10 (Cmd.Finish 1 Outcome.Complete) refl
    ∷ []

-- ---- what each script answers and leaves
pub record LimitsAsWorked : Type 0 where
  pub many_types_length : length many_types.types ≡ 64
  pub one_more_type_answers : answers many_types one_more_type ≡ Denied 4 ∷ []
  pub one_more_type_leaves : run many_types one_more_type ≡ many_types
  pub fewer_types_length : length fewer_types.types ≡ 63
  pub fewer_types_answers : answers fewer_types one_more_type ≡ did 0 ∷ []
  pub one_more_board_answers : answers many_boards one_more_board ≡ Denied 4 ∷ did 0 ∷ []
  pub one_more_board_length : length (run many_boards one_more_board).boards ≡ 65
  pub all_boards_length : length all_boards.boards ≡ 256
  pub one_more_of_a_fifth_type_answers : answers all_boards one_more_of_a_fifth_type ≡ Denied 4 ∷ []
  pub numbers_run_out_answers : answers last_number numbers_run_out ≡ did 999999999 ∷ Denied 4 ∷ Denied 4 ∷ passed 0 0 0 ∷ []
  pub numbers_run_out_next : (run last_number numbers_run_out).next ≡ 1000000000
  pub numbers_run_out_jobs : (run last_number numbers_run_out).jobs ≡ []
  pub numbers_run_out_reservation : res_shows (run last_number numbers_run_out) 999999999 ≡ Some (ResState.Waiting, None, 80)
  pub numbers_run_out_kept : (run last_number numbers_run_out).kept ≡ record { caller = codes "ann"; key = codes "k1"; kind = 9; reply = reply_of 999999999 0 0 } ∷ []
  pub counting_ends_answers : answers last_count counting_ends ≡ did 0 ∷ Denied 11 ∷ Denied 4 ∷ Denied 4 ∷ []
  pub counting_ends_count : (run last_count counting_ends).count ≡ 9000000000000000000
  pub counting_ends_clock : (run last_count counting_ends).clock ≡ 10
  pub one_more_job_answers : answers a_million_jobs one_more_job ≡ did 1 ∷ []
  pub one_more_job_board : board_shows (run a_million_jobs one_more_job) (codes "b1") ≡ Some (Health.Good, State.Idle, Holder.Nobody, 1000000, 0)
