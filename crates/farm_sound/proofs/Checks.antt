-- The checks of a pass keep soundness.
use Rattle.std.proofs.Common.{[], ◌&&◌, ◌+◌, ◌<◌, ◌==◌, ◌||◌, ◌∙◌, ◌∷◌, ◌≡◌, ◌⊎◌, Bool, IsNone, IsSome, IsTrue, List, None, Some, ap, arith, codes, cond}
use Rattle.std.proofs.Common.{false, inl, inr, length, nat_le, refl, subst, sym, true, ℕ}
use Rattle.farm_sound.proofs.Names.{AllByRecursion, AllByRecursion-weaker, board_of, BoardRow, bytes_eq, bytes_eq-Decides, Check, false≢true, Farm, filter}
use Rattle.farm_sound.proofs.Names.{fold, found_has, found_passes, Health, Holder, is_eq, is_eq-slice_cmp, job_of, JobRow, Less}
use Rattle.std.specs.List.Sorted.{IsStrictlySortedBy}
use Rattle.farm_sound.proofs.Names.{nat_list_eq_equiv, nat_tests, option_map_or, type_of}
use Rattle.farm_types.specs.Names.{board_cmp, check_job, check_of, check_one, checks, has_room, highest_priority, hold_of, is_due, is_due_by, is_nobody}
use Rattle.farm_types.specs.Names.{is_reached, is_tags, is_want, is_word, IsBoardRow, IsJobRow, IsName, IsSound, IsSteady, job_hold, most_jobs}
use Rattle.farm_types.specs.Names.{numbers_end, same_health}
use Rattle.farm_sound.proofs.Add.{IsSteady-add_job, add_job, job_of-add}
use Rattle.farm_sound.proofs.Collecting.{IsCollecting-add, next_collects_not}
use Rattle.farm_sound.proofs.Give.{IsFreeBoard, IsSteady-given_to, boards_on, given_to, still_board, still_there}
use Rattle.farm_sound.proofs.Held.{IsHeldByKeys-given}
use Rattle.farm_sound.proofs.Lists.{filter_all}
use Rattle.farm_sound.proofs.Own.{fresh_job, fresh_res, itself, own_board}
use Rattle.farm_sound.proofs.Rows.{new_words, no_job_text}
use Rattle.farm_sound.proofs.Tests.{both, nobody_from, same_number}
use Rattle.farm_sound.proofs.Where.{AllByRecursion-both, by_cases, either}
use Rattle.farm_sound.proofs.Whole.{AreGroupsInPhase-add}

-- ---- one check

admin_name : IsName (codes "admin")
unfolding is_word
admin_name = refl

want_of_kind : (kind : List ℕ) → IsName kind → IsTrue (is_want (record { kind = Some kind; tags = [] }))
unfolding is_tags
want_of_kind kind name = rw name refl

-- a type that is there has a name
kind_name : (F : Farm) (kind : List ℕ) → IsSteady F → IsSome (type_of F kind) → IsName kind
kind_name F kind steady some = grind (arith, false≢true, bytes_eq-Decides, found_passes, found_has)

module _ (F : Farm) (b : BoardRow) (free : IsFreeBoard F b) (sound : IsSound F) where
  abbrev row : JobRow
  row = check_job F.next b

  -- the board in the check's hands, and then the check
  abbrev F1 : Farm
  F1 = given_to (Holder.Job F.next) b F

  row_b : IsBoardRow F b
  row_b = found_has (IsBoardRow F) (λ r. bytes_eq r.name b.name) b F.boards sound.steady.boards free.there

  check_row : IsJobRow (add_job row F1) row
  check_row = record {
    number = (sound.steady.next.0, omega arith);
    apart = subst IsNone (sym (fresh_res F sound.steady F.next (omega arith))) refl;
    words = new_words F.next F.next (codes "admin") highest_priority (record { kind = Some b.kind; tags = [] }) None [] admin_name refl
        (want_of_kind b.kind (kind_name F b.kind sound.steady row_b.kind)) tt no_job_text;
    kind = row_b.kind;
    board = still_there F (Holder.Job F.next) b free;
    outcome = (λ e. absurd (false≢true e), λ e. cc);
    waits = λ e. cc;
    holds = λ _. refl;
    group = (omega arith, omega arith);
    follows = λ later. absurd (later refl);
    check = λ _. record { alone = refl; owner = refl; priority = refl; state = λ e. absurd (omega (arith, e)); tags = refl; role = refl; body = refl };
  }

  stays_all : (h : Holder) → (hold_of (add_job row F1) h ≡ hold_of F h) ⊎ (h ≡ Holder.Job F.next)
  stays_all (Holder.Job k) = either (F.next == k) (λ same. inr (ap Holder.Job (sym (same_number F.next k same))))
      (λ other. inl (ap (λ o. option_map_or job_hold o None) (job_of-add F1 row k ∙ ap (λ v. cond v (Some row) (job_of F k)) other)))
  stays_all h = inl refl

  checked_sound : length F.jobs < most_jobs → F.next < numbers_end → IsSound (add_job row F1)
  checked_sound room numbers = record {
    steady = IsSteady-add_job F1 row refl room numbers check_row (IsSteady-given_to F (Holder.Job F.next) b free sound.steady);
    held = IsHeldByKeys-given F (add_job row F1) (Holder.Job F.next) b
        (record {
          free = free.nobody;
          there = free.there;
          nothing = ap (λ o. option_map_or job_hold o None) (fresh_job F sound.steady F.next (omega arith));
          gets = ap (λ o. option_map_or job_hold o None) (job_of-add F1 row F.next ∙ ap (λ v. cond v (Some row) (job_of F F.next)) (itself F.next));
          stays = stays_all;
          boards = boards_on F (Holder.Job F.next) b;
          rows = refl;
        })
        sound.held;
    whole = AreGroupsInPhase-add F row (AllByRecursion-weaker (λ m is same. absurd (omega (arith, is.number.1, is.group.0, same))) F.jobs sound.steady.jobs) sound.whole;
    collecting = IsCollecting-add F row sound.steady refl (λ e. cc)
        (λ low same. absurd (next_collects_not F sound.steady sound.collecting low same)) sound.collecting;
  }

  pub IsSound-check_one : IsSound (check_one F b)
  IsSound-check_one = by_cases IsSound (has_room F 1) (add_job row F1) F
      (λ room. let two = both (nat_le (length F.jobs + 1) most_jobs) (nat_le (F.next + 1) numbers_end) room in
      checked_sound (let r = two.0 in grind (arith, nat_tests)) (let r = two.1 in grind (arith, nat_tests)))
      (λ _. sound)

  pub still_free : (c : BoardRow) → bytes_eq c.name b.name ≡ false → IsFreeBoard F c → IsFreeBoard (check_one F b) c
  still_free c other is = by_cases (λ G. IsFreeBoard G c) (has_room F 1) (add_job row F1) F
      (λ _. record {
        there = still_board F (Holder.Job F.next) b c other is.there;
        nobody = is.nobody;
        kept = is.kept;
      })
      (λ _. is)

-- ---- the checks

abbrev AreApartBoards : List BoardRow → Type 0
AreApartBoards [] = Unit {0}
AreApartBoards (b ∷ bs) = AllByRecursion (λ c. bytes_eq c.name b.name ≡ false) bs × AreApartBoards bs

all_still_free : (F : Farm) (b : BoardRow) (free : IsFreeBoard F b) (sound : IsSound F) (bs : List BoardRow)
    → AllByRecursion (λ c. bytes_eq c.name b.name ≡ false) bs → AllByRecursion (IsFreeBoard F) bs → AllByRecursion (IsFreeBoard (check_one F b)) bs
all_still_free F b free sound bs apart all =
    AllByRecursion-weaker (λ c two. still_free F b free sound c two.0 two.1) bs
    (AllByRecursion-both (λ c. bytes_eq c.name b.name ≡ false) (IsFreeBoard F) bs apart all)

check_all : (bs : List BoardRow) (F : Farm) → AllByRecursion (IsFreeBoard F) bs → AreApartBoards bs → IsSound F → IsSound (fold check_one F bs)
check_all [] F all apart sound = sound
check_all (b ∷ bs) F all apart sound =
    check_all bs (check_one F b) (all_still_free F b all.0 sound bs apart.0 all.1) apart.1 (IsSound-check_one F b all.0 sound)

due_kept : (check : Check) (t : ℕ) (b : BoardRow) → is_due_by check t b ≡ true → b.health ≡ Health.Retired → ⊥
due_kept Check.Never t b due retired = false≢true due
due_kept check t b due retired =
    false≢true (ap (λ h. same_health h Health.Unknown || (same_health h Health.Good && is_reached t b check)) (sym retired) ∙ due)

apart_filter : (test : BoardRow → Bool) (bs : List BoardRow) → IsStrictlySortedBy board_cmp bs → AreApartBoards (filter test bs)
unfolding IsStrictlySortedBy
apart_filter test [] sorted = tt
apart_filter test (b ∷ bs) sorted = by_cases AreApartBoards (test b) (b ∷ filter test bs) (filter test bs)
    (λ _. (
      AllByRecursion-weaker (λ c two. nat_list_eq_equiv.symm c.name b.name ∙ sym (is_eq-slice_cmp b.name c.name) ∙ ap is_eq two.0) (filter test bs)
          (filter_all (λ c. board_cmp b c ≡ Less) test bs sorted.0),
      apart_filter test bs sorted.1,
    ))
    (λ _. apart_filter test bs sorted.1)

pub IsSound-checks : (F : Farm) (t : ℕ) → IsSound F → IsSound (checks F t)
IsSound-checks F t sound =
    check_all (filter (is_due F t) F.boards) F
    (AllByRecursion-weaker
    (λ b two.
    let due = both (is_nobody b.holder) (is_due_by (check_of F.types b.kind) t b) two.1 in
    record { there = two.0; nobody = nobody_from b.holder due.0; kept = due_kept (check_of F.types b.kind) t b due.1 })
    (filter (is_due F t) F.boards) (filter_all (λ b. board_of F b.name ≡ Some b) (is_due F t) F.boards (own_board F sound.steady)))
    (apart_filter (is_due F t) F.boards sound.steady.boards_sorted) sound

-- they change jobs, boards and the next number alone
pub checks_rest : (bs : List BoardRow) (F : Farm) → record (fold check_one F bs) { jobs = F.jobs; boards = F.boards; next = F.next } ≡ F
checks_rest [] F = refl
checks_rest (b ∷ bs) F =
    ap (λ (G : Farm). record G { jobs = F.jobs; boards = F.boards; next = F.next }) (checks_rest bs (check_one F b))
    ∙ by_cases (λ (G : Farm). record G { jobs = F.jobs; boards = F.boards; next = F.next } ≡ F) (has_room F 1) (add_job (check_job F.next b) (given_to (Holder.Job F.next) b F)) F
    (λ _. refl) (λ _. refl)

pub check_clock : (bs : List BoardRow) (F : Farm) → (fold check_one F bs).clock ≡ F.clock
check_clock bs F = ap (λ (G : Farm). G.clock) (checks_rest bs F)
