-- Worked scripts of rows that are added out of order, and of a group of four.
use Rattle.std.specs.Prelude.{◌≡◌, ℕ, List, [], ◌∷◌, Some, None, codes, map, refl}
use Rattle.std.specs.Str.{is_utf8, chars}
use Rattle.farm_types.specs.Names.{empty_farm, Farm, is_proper_cmd, is_tag, is_tags, is_word, new_board as board_row, run}
use Rattle.farm_types.specs.declared.calls.Call.{Call}
use Rattle.farm_types.specs.declared.rows.Check.{Check}
use Rattle.farm_types.specs.declared.calls.Cmd.{Cmd}
use Rattle.farm_types.specs.declared.rows.Health.{Health}
use Rattle.farm_types.specs.declared.rows.Holder.{Holder}
use Rattle.farm_types.specs.declared.rows.JobRow.{JobRow}
use Rattle.farm_types.specs.declared.rows.State.{State}
use Rattle.farm_worked.specs.Worked.{answers, did, by_admin, by_ann, a_board, single}

-- texts stand in byte order: a capital letter before a small one, and b10 before b2
unfoldable pub types_and_boards : List Call
unfolding is_proper_cmd is_word is_tag is_tags is_utf8 chars
types_and_boards =
    by_admin 10 (Cmd.AddType (codes "ccc") (Check.Jobs 10000)) refl
    ∷ by_admin 11 (Cmd.AddType (codes "aaa") (Check.Hours 24)) refl
    ∷ by_admin 12 (Cmd.AddType (codes "bbb") Check.Never) refl
    ∷ by_admin 13 (Cmd.AddBoard (codes "b2") (codes "bbb") (codes "hdmi" ∷ codes "soc=rk3399" ∷ [])) refl
    ∷ by_admin 14 (Cmd.AddBoard (codes "b10") (codes "aaa") []) refl
    ∷ by_admin 15 (Cmd.AddBoard (codes "B3") (codes "ccc") (codes "usb" ∷ [])) refl
    ∷ []

abbrev pub after_types_and_boards : Farm
after_types_and_boards = record {
  types =
      record { name = codes "aaa"; check = Check.Hours 24 }
      ∷ record { name = codes "bbb"; check = Check.Never }
      ∷ record { name = codes "ccc"; check = Check.Jobs 10000 }
      ∷ [];
  boards =
      record (board_row [] [] []) { name = codes "B3"; kind = codes "ccc"; tags = codes "usb" ∷ []; health = Health.Maintenance; state = State.Idle; holder = Holder.Nobody; jobs_since = 0; last_check = 0 }
      ∷ board_row (codes "b10") (codes "aaa") []
      ∷ board_row (codes "b2") (codes "bbb") (codes "hdmi" ∷ codes "soc=rk3399" ∷ [])
      ∷ [];
  jobs = [];
  reservations = [];
  kept = [];
  clock = 15;
  collector = 0;
  count = 6;
  next = 1;
}

-- two boards more of type bbb; a job, a group of four, and a job again
unfoldable pub four_members : List Call
unfolding is_proper_cmd is_word is_tag is_tags is_utf8 chars
four_members =
    by_admin 20 (Cmd.AddBoard (codes "b5") (codes "bbb") []) refl
    ∷ by_admin 20 (Cmd.AddBoard (codes "b4") (codes "bbb") []) refl
    ∷ by_ann 30 (single 50) refl
    ∷ by_ann 31 (Cmd.Submit 60 (a_board [] ∷ a_board [] ∷ a_board [] ∷ record { kind = Some (codes "aaa"); tags = [] } ∷ []) (None ∷ None ∷ None ∷ None ∷ []) []) refl
    ∷ by_ann 32 (single 50) refl
    ∷ []

-- a job's number, group and priority
abbrev pub place_of : JobRow → ℕ × ℕ × ℕ
place_of j = (j.number, j.group, j.priority)

-- what each script answers and leaves
pub record OrderAsWorked : Type 0 where
  pub types_and_boards_answers : answers empty_farm types_and_boards ≡ did 0 ∷ did 0 ∷ did 0 ∷ did 0 ∷ did 0 ∷ did 0 ∷ []
  pub types_and_boards_leaves : run empty_farm types_and_boards ≡ after_types_and_boards
  pub four_members_answers : answers after_types_and_boards four_members ≡ did 0 ∷ did 0 ∷ did 1 ∷ did 2 ∷ did 6 ∷ []
  pub four_members_boards : map (λ b. b.name) (run after_types_and_boards four_members).boards ≡ codes "B3" ∷ codes "b10" ∷ codes "b2" ∷ codes "b4" ∷ codes "b5" ∷ []
  pub four_members_jobs : map place_of (run after_types_and_boards four_members).jobs
      ≡ (1, 1, 50) ∷ (2, 2, 60) ∷ (3, 2, 60) ∷ (4, 2, 60) ∷ (5, 2, 60) ∷ (6, 6, 50) ∷ []
  pub four_members_next : (run after_types_and_boards four_members).next ≡ 7
