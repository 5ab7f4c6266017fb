-- Examples of single definitions, in the order of docs/MACHINE.md's chapters.
use Rattle.std.specs.Prelude.{◌≡◌, ◌==◌, ℕ, List, [], ◌∷◌, map, replicate, Some, None, Result, Ok, Err, codes, refl, true, false, option_map}
use Rattle.std.specs.Str.{is_utf8, chars}
use Rattle.std.specs.declared.cmp.Ordering.TheVariants.{Less}
use Rattle.farm_types.specs.Names.{AreGroupsInPhase, by_code, change_where, claims_taken, Denied, every_of, Farm, fits, health_called, held_by, holder_text}
use Rattle.farm_types.specs.Names.{holds, is_due_by, is_free, is_proper_cmd, is_tag, is_tags, is_word, IsHeldOnce, IsSmall, job_of, job_state_code}
use Rattle.farm_types.specs.Names.{job_state_with, job_state_word, kept_cmp, least, line_of, meets, members, names_cmp, OrNoMemory, outcome_called}
use Rattle.farm_types.specs.Names.{outcome_with, priority_called, put, put_all, queue, reason_of, refused_code, reply_of, res_of, run, serves, tags_among}
use Rattle.farm_types.specs.Names.{tags_of, tags_read, tags_text, text_cmp, type_cmp, word_or, ◌>>=◌}
use Rattle.farm_types.specs.declared.rows.BoardRow.{BoardRow}
use Rattle.farm_types.specs.declared.calls.Call.{Call}
use Rattle.farm_types.specs.declared.rows.Check.{Check}
use Rattle.farm_types.specs.declared.calls.Cmd.{Cmd}
use Rattle.farm_types.specs.declared.rows.Health.{Health}
use Rattle.farm_types.specs.declared.rows.Holder.{Holder}
use Rattle.farm_types.specs.declared.rows.JobRow.{JobRow}
use Rattle.farm_types.specs.declared.rows.JobState.{JobState}
use Rattle.farm_types.specs.declared.rows.KeptRow.{KeptRow}
use Rattle.farm_types.specs.declared.refusal.Refusal.{Refusal}
use Rattle.farm_types.specs.declared.rows.State.{State}
use Rattle.farm_types.specs.declared.rows.TypeRow.{TypeRow}
use Rattle.farm_types.specs.declared.rows.Want.{Want}
use Rattle.farm_types.specs.declared.fault.WordFault.{WordFault}
use Rattle.farm_worked.specs.Worked.{answers, call_under, a_board}
use Rattle.farm_types.specs.declared.fault.WordFault.TheVariants.{Refused, NoMemory}
use Rattle.farm_worked.specs.Groups.{after_group_starts, after_one_member_ends, after_first_member_collects}
use Rattle.farm_worked.specs.Reservations.{after_one_counter, after_lease_begins}
use Rattle.farm_worked.specs.Limits.{board_named, many_types}

-- ---- words

pub record BookOfWords : Type 0 where
  pub these_are_names : map (is_word 48) (codes "bbb-01" ∷ codes "a.b_C" ∷ []) ≡ true ∷ true ∷ []
  pub these_are_tags : map is_tag (codes "hdmi" ∷ codes "soc=rk3399" ∷ []) ≡ true ∷ true ∷ []
  pub these_are_no_tags : map is_tag (codes "=x" ∷ codes "a b" ∷ [] ∷ [])
      ≡ false ∷ false ∷ false ∷ []
  pub capital_first : text_cmp (codes "B3") (codes "b10") ≡ Less
  pub b10_before_b2 : text_cmp (codes "b10") (codes "b2") ≡ Less

-- ---- tables

abbrev pub type_row : List ℕ → Check → TypeRow
type_row name check = record { name = name; check = check }

abbrev pub two_types : List TypeRow
two_types = type_row (codes "aaa") Check.Never ∷ type_row (codes "ccc") Check.Never ∷ []

abbrev pub under_k1 : List ℕ → KeptRow
under_k1 caller = record { caller = caller; key = codes "k1"; kind = 5; reply = reply_of 1 0 0 }

pub record BookOfTables : Type 0 where
  pub row_is_added : put type_cmp two_types (type_row (codes "bbb") Check.Never)
      ≡ type_row (codes "aaa") Check.Never
      ∷ type_row (codes "bbb") Check.Never
      ∷ type_row (codes "ccc") Check.Never
      ∷ []
  pub row_takes_its_place : put type_cmp two_types (type_row (codes "ccc") (Check.Hours 24))
      ≡ type_row (codes "aaa") Check.Never ∷ type_row (codes "ccc") (Check.Hours 24) ∷ []
  pub one_key_of_two_callers : put_all kept_cmp []
      (under_k1 (codes "bob") ∷ under_k1 (codes "ann") ∷ [])
      ≡ under_k1 (codes "ann") ∷ under_k1 (codes "bob") ∷ []

-- ---- readers

-- the name that a text spells, or bad name
abbrev pub name_of : List ℕ → Result (List ℕ) ℕ
name_of text = word_or (is_word 48 text) text 5

abbrev pub ReadsName : List ℕ → Result (List ℕ) Refusal → Type 0
ReadsName text given = by_code given ≡ name_of text

-- the tag that a text spells, or bad tag
abbrev pub tag_of : List ℕ → Result (List ℕ) ℕ
tag_of text = word_or (is_tag text) text 6

abbrev pub ReadsTag : List ℕ → Result (List ℕ) WordFault → Type 0
ReadsTag text given = OrNoMemory refused_code (λ tag. tag) given (tag_of text)

pub record BookOfReaders : Type 0 where
  pub name_is_read : ReadsName (codes "b1") (Ok (codes "b1"))
  pub bad_name_is_refused : ReadsName (codes "b 1") (Err (record { code = 5 }))
  pub bad_name_is_not_read : ReadsName (codes "b 1") (Ok (codes "b1")) → ⊥
  pub name_is_not_refused : ReadsName (codes "b1") (Err (record { code = 5 })) → ⊥
  pub tag_is_read : ReadsTag (codes "usb") (Ok (codes "usb"))
  pub bad_tag_is_refused : ReadsTag (codes "=x") (Err (Refused (record { code = 6 })))
  pub bad_tag_is_not_read : ReadsTag (codes "=x") (Ok (codes "x")) → ⊥
  pub tag_is_not_refused : ReadsTag (codes "usb") (Err (Refused (record { code = 6 }))) → ⊥
  pub memory_ran_out : ReadsTag (codes "usb") (Err NoMemory)
  pub first_fault_stands : (Err 6 >>= tags_of) ≡ Err 6

-- ---- tags

abbrev pub hdmi_usb : List (List ℕ)
hdmi_usb = codes "hdmi" ∷ codes "usb" ∷ []

pub record BookOfTags : Type 0 where
  pub tags_in_order : tags_among (codes "usb" ∷ codes "hdmi" ∷ codes "usb" ∷ []) ≡ Ok hdmi_usb
  pub seventeen_times_usb : tags_among (replicate 17 (codes "usb")) ≡ Err 7
  pub sixteen_times_usb : tags_among (replicate 16 (codes "usb")) ≡ Ok (codes "usb" ∷ [])
  pub seventeen_bad_tags : tags_among (replicate 17 (codes "=x")) ≡ Err 7
  pub bad_tag_among_others : tags_among (codes "usb" ∷ codes "=x" ∷ []) ≡ Err 6
  pub text_of_tags : tags_text hdmi_usb ≡ codes "hdmi,usb"
  pub text_is_read : tags_read (codes "hdmi,usb") ≡ Ok hdmi_usb
  pub text_out_of_order : tags_read (codes "usb,hdmi") ≡ Err 6
  pub text_with_a_double : tags_read (codes "usb,usb") ≡ Err 6
  pub text_of_no_tags : tags_read [] ≡ Ok []

-- ---- codes, and what is called by words

pub record BookOfCodes : Type 0 where
  pub code_of_scheduling : job_state_code JobState.Scheduling ≡ 1
  pub state_with_code_1 : job_state_with 1 ≡ Some JobState.Scheduling
  pub state_with_code_6 : job_state_with 6 ≡ None
  pub outcome_with_code_0 : outcome_with 0 ≡ None
  pub word_of_scheduling : job_state_word JobState.Scheduling ≡ codes "Scheduling"

pub record BookOfCalled : Type 0 where
  pub health_called_good : map health_called (codes "Good" ∷ codes "good" ∷ [])
      ≡ Some Health.Good ∷ None ∷ []
  pub outcome_called_canceled : outcome_called (codes "Canceled") ≡ None
  pub priorities_called : map priority_called
      (codes "low" ∷ codes "medium" ∷ codes "high" ∷ codes "urgent" ∷ [])
      ≡ Some 0 ∷ Some 50 ∷ Some 100 ∷ None ∷ []
  pub holders_called : map holder_text (Holder.Nobody ∷ Holder.Job 7 ∷ Holder.Res 8 ∷ [])
      ≡ codes "none" ∷ codes "job 7" ∷ codes "reservation 8" ∷ []

-- ---- refusals

pub record BookOfRefusals : Type 0 where
  pub line_of_14 : line_of 14 ≡ Some (Some 409, codes "board is held")
  pub line_of_62 : line_of 62 ≡ Some (None, codes "bad store")
  pub line_of_8 : line_of 8 ≡ None
  pub reason_of_409 : reason_of 409 ≡ codes "Conflict"

-- ---- the farm

pub record BookOfFarms : Type 0 where
  pub members_of_a_group : map (λ j. j.number) (members after_one_counter 2) ≡ 2 ∷ 3 ∷ []
  pub no_job_of_that_number : job_of after_one_counter 4 ≡ None
  pub owner_of_that_reservation : option_map (λ r. r.owner) (res_of after_one_counter 4)
      ≡ Some (codes "bob")

-- ---- what is picked

-- b1 has hdmi, b2 and b3 have no tags
abbrev pub b1 : BoardRow
b1 = record (board_named (codes "bbb") (codes "b1")) { tags = codes "hdmi" ∷ [] }

abbrev pub b2 : BoardRow
b2 = board_named (codes "bbb") (codes "b2")

abbrev pub b3 : BoardRow
b3 = board_named (codes "bbb") (codes "b3")

-- a bbb with hdmi, whatever is called b1, and any aaa
abbrev pub three_wants : List Want
three_wants =
    a_board (codes "hdmi" ∷ [])
    ∷ record { kind = None; tags = codes "name=b1" ∷ [] }
    ∷ record { kind = Some (codes "aaa"); tags = [] }
    ∷ []

-- any bbb, and a bbb with hdmi
abbrev pub two_wants : List Want
two_wants = a_board [] ∷ a_board (codes "hdmi" ∷ []) ∷ []

abbrev pub all_health : List BoardRow
all_health =
    map (λ health. record b1 { health = health })
    (Health.Good ∷ Health.Unknown ∷ Health.Bad ∷ Health.Maintenance ∷ Health.Retired ∷ [])

pub record BookOfPicks : Type 0 where
  pub what_b1_fits : map (fits b1) three_wants ≡ true ∷ true ∷ false ∷ []
  pub what_b2_fits : map (fits b2) three_wants ≡ false ∷ false ∷ false ∷ []
  pub what_serves : map (serves (type_row (codes "bbb") Check.Never ∷ [])) all_health
      ≡ true ∷ true ∷ false ∷ false ∷ false ∷ []
  pub what_serves_with_checks : map (serves (type_row (codes "bbb") (Check.Hours 24) ∷ []))
      all_health ≡ true ∷ false ∷ false ∷ false ∷ false ∷ []
  pub held_is_not_free : is_free []
      (record b1 { holder = Holder.Job 1; state = State.Reserved }) ≡ false
  pub lists_that_meet : map (meets (is_free []) two_wants)
      ((b2 ∷ b1 ∷ []) ∷ (b1 ∷ b2 ∷ []) ∷ (b1 ∷ b1 ∷ []) ∷ (b1 ∷ []) ∷ [])
      ≡ true ∷ false ∷ false ∷ false ∷ []
  pub names_before_names : names_cmp (b2 ∷ b1 ∷ []) (b3 ∷ b1 ∷ []) ≡ Less
  pub first_that_meets : least (b1 ∷ b2 ∷ b3 ∷ []) (is_free []) two_wants ≡ Some (b2 ∷ b1 ∷ [])
  pub none_that_meets : least (b2 ∷ b3 ∷ []) (is_free []) two_wants ≡ None
  pub queue_of_four : map (λ c. c.number) (queue after_one_counter) ≡ 4 ∷ 1 ∷ 2 ∷ 5 ∷ []
  pub collector_waits_still : map (λ c. c.number) (queue after_first_member_collects) ≡ 1 ∷ []

-- ---- the pass

-- b1 after so many jobs
abbrev pub used_board : ℕ → BoardRow
used_board n = record b1 { jobs_since = n }

pub record BookOfPasses : Type 0 where
  pub due_by_hours : map (λ t. is_due_by (Check.Hours 1) t (record b1 { last_check = 100 }))
      (3699 ∷ 3700 ∷ []) ≡ false ∷ true ∷ []
  pub due_by_jobs : map (λ n. is_due_by (Check.Jobs 2) 100 (used_board n)) (1 ∷ 2 ∷ [])
      ≡ false ∷ true ∷ []
  pub who_is_due : map (is_due_by (Check.Hours 1) 100) all_health
      ≡ false ∷ true ∷ false ∷ false ∷ false ∷ []
  pub collector_goes_first : map (λ c. c.number) (claims_taken after_lease_begins 2) ≡ 2 ∷ 1 ∷ 5 ∷ []

-- ---- refusals in their order

-- sixty-four types, and the reply of ann's job under k1
abbrev pub no_more_types : Farm
no_more_types = record many_types { kept = under_k1 (codes "ann") ∷ []; count = 65; next = 2 }

-- each call lacks the reason of the one before it
unfoldable pub reasons_in_order : List Call
unfolding is_proper_cmd is_word is_tag is_tags is_utf8 chars
reasons_in_order =
    call_under (codes "ann") (codes "k1") 250000000001 (Cmd.AddType (codes "a") Check.Never) refl
    ∷ call_under (codes "ann") (codes "k1") 10 (Cmd.AddType (codes "a") Check.Never) refl
    ∷ call_under (codes "ann") (codes "k2") 10 (Cmd.AddType (codes "a") Check.Never) refl
    ∷ call_under (codes "admin") (codes "k1") 10 (Cmd.AddType (codes "a") Check.Never) refl
    ∷ call_under (codes "admin") (codes "k1") 10 (Cmd.AddType (codes ".") Check.Never) refl
    ∷ []

pub record BookOfReasons : Type 0 where
  pub reasons_in_order_answers : answers no_more_types reasons_in_order
      ≡ Denied 2 ∷ Denied 40 ∷ Denied 3 ∷ Denied 11 ∷ Denied 4 ∷ []
  pub reasons_in_order_leaves : run no_more_types reasons_in_order ≡ no_more_types

-- ---- sound farms

-- both members on one board
abbrev pub on_b1 : JobRow → JobRow
on_b1 j = record j { board = Some (codes "b1") }

abbrev pub on_one_board : Farm
on_one_board = record after_group_starts { jobs = map on_b1 after_group_starts.jobs }

-- one member runs, the other one has its board and waits for the start
abbrev pub half_started_farm : Farm
half_started_farm = record after_group_starts {
  jobs =
      change_where (λ j. j.number == 2) (λ j. record j { state = JobState.Scheduled })
      after_group_starts.jobs;
}

pub record BookOfSound : Type 0 where
  pub what_is_held : holds after_one_member_ends
      ≡ record { board = codes "b1"; holder = Holder.Job 2; state = State.Running } ∷ []
  pub held_twice : IsHeldOnce on_one_board → ⊥
  pub started_in_part : AreGroupsInPhase half_started_farm → ⊥

-- ---- numbers of a store

pub record BookOfSmall : Type 0 where
  pub numbers_of_checks : map every_of (Check.Never ∷ Check.Hours 24 ∷ Check.Jobs 100 ∷ [])
      ≡ 0 ∷ 24 ∷ 100 ∷ []
  pub numbers_of_holders : map held_by (Holder.Nobody ∷ Holder.Job 7 ∷ Holder.Res 8 ∷ [])
      ≡ 0 ∷ 7 ∷ 8 ∷ []
  pub greatest_number : IsSmall 9000000000000000000
  pub one_beyond : IsSmall 9000000000000000001 → ⊥
