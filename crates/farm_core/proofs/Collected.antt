-- A group collects, member by member, and gives back what it collected.
use Rattle.std.proofs.Common.{[], ◌≡◌, ◌∙◌, ◌==◌, ◌&&◌, ◌+◌, ◌<◌, ◌≤◌, ℕ, zero, suc, List, ◌∷◌, length, drop, get_or, map, filter, Bool, false, cond, not}
use Rattle.std.proofs.Common.{Some, IsSomeAnd, refl, sym, ap, subst, arith, add-one}
use Rattle.farm_core.proofs.Names.{AllByRecursion, AllByRecursion-weaker, BoardRow, bytes_eq, filter_all, fold, Holder, idle_boards, IdleBoard, JobRow}
use Rattle.farm_core.proofs.Names.{JobState, length-map, State, TypeRow}
use Rattle.std.specs.Option.{option_map}
use Rattle.std.proofs.Math.Bool.{and-false}
use Rattle.farm_types.specs.Names.{change_where, collect_member, Farm, first_free, freed_board, give_member, giving_back, held_board, is_free, is_job_so}
use Rattle.farm_types.specs.Names.{IsSound, job_of, members, placed_job, same_job_state, unplaced_job}
use Rattle.farm_types.proofs.Put.{found_has}
use Rattle.farm_sound.proofs.Collecting.{none_scheduling}
use Rattle.farm_sound.proofs.Own.{own_job}
use Rattle.farm_sound.proofs.Where.{by_cases, find_map}
use Rattle.farm_pick.specs.Queued.{idle_board}
use Rattle.farm_core.specs.Serving.{Collects, HasWant, assign_named}
use Rattle.farm_core.specs.Came.{Seen}
use Rattle.farm_core.proofs.Serving.{numbers_of}

-- ---- the free boards once one is held

module _ (types : List TypeRow) (name : List ℕ) (n : ℕ) where
  abbrev take : BoardRow → BoardRow
  take = held_board (Holder.Job n) State.Reserved

  abbrev other : IdleBoard → Bool
  other x = not (bytes_eq x.name name)

  abbrev free : List BoardRow → List BoardRow
  free boards = filter (is_free types) boards

  abbrev taken : List BoardRow → List BoardRow
  taken boards = change_where (λ c. bytes_eq c.name name) take boards

  pub held_free : (boards : List BoardRow) → filter other (map idle_board (free boards)) ≡ map idle_board (free (taken boards))
  held_free [] = refl
  held_free (b ∷ boards) = grind (arith, held_free boards)

-- ---- one member

abbrev S : JobState
S = JobState.Scheduling

-- what a job wants stays when another, or itself, takes a board
abbrev changed : ℕ → List ℕ → JobRow → JobRow
changed number name r = cond (r.number == number) (placed_job S name r) r

keeps_number : (number n : ℕ) (name : List ℕ) (r : JobRow) → ((changed number name r).number == n) ≡ (r.number == n)
keeps_number number n name r = by_cases (λ (k : JobRow). (k.number == n) ≡ (r.number == n)) (r.number == number) (placed_job S name r) r (λ _. refl) (λ _. refl)

module _ (F : Farm) (m j : JobRow) (n : ℕ) (has : HasWant F n j) where
  want_given : (b : BoardRow) → HasWant (give_member S F (m, b)) n j
  want_given b = grind (arith, find_map (λ (r : JobRow). r.number == n) (changed m.number b.name) (keeps_number m.number n b.name) F.jobs, keeps_number m.number n b.name, by_cases (λ (k : JobRow). k.want ≡ j.want))

  pub want_stays : HasWant (collect_member F m) n j
  want_stays = grind (arith, want_given)

-- ---- the board that a member takes

module _ (F : Farm) (number : ℕ) (j : JobRow) (has : HasWant F number j) where
  pub takes_one : (name : List ℕ) → Some name ≡ option_map (λ (b : BoardRow). b.name) (first_free F j.want) → assign_named S F (number, name) ≡ collect_member F j
  takes_one name some = grind arith

-- ---- the members, one after the other

-- each member wants what its own row says
pub wants_own : (F : Farm) (group : ℕ) → IsSound F → AllByRecursion (λ m. HasWant F m.number m) (members F group)
wants_own F group sound =
    AllByRecursion-weaker (λ m two. (refl, subst (λ o. IsSomeAnd o (λ (r : JobRow). r.want ≡ m.want)) (sym two.0) refl)) (members F group)
    (filter_all (λ m. job_of F m.number ≡ Some m) (λ m. m.group == group) F.jobs (own_job F sound.steady))

-- a member, and those behind it
split : (P : JobRow → Type 0) (ms : List JobRow) (at : ℕ) → AllByRecursion P ms → at < length ms
    → (m : JobRow) × (drop at ms ≡ m ∷ drop (suc at) ms) × (get_or (numbers_of ms) at 0 ≡ m.number) × P m
split P [] at all low = absurd (omega arith)
split P (m ∷ ms) zero all low = (m, refl, refl, all.0)
split P (m ∷ ms) (suc at) all low = split P ms at all.1 (omega arith)

no_more : (ms : List JobRow) (at : ℕ) → length ms ≤ at → drop at ms ≡ []
no_more [] zero high = refl
no_more [] (suc at) high = refl
no_more (m ∷ ms) zero high = absurd (omega arith)
no_more (m ∷ ms) (suc at) high = no_more ms at (omega arith)

-- so many members have taken what they get
pub record Takes (D E : Seen) (group at : ℕ) : Type 0 where
  pub rest : fold collect_member E.farm (drop at (members D.farm group)) ≡ fold collect_member D.farm (members D.farm group)
  pub queues : E.queues ≡ record D.queues { boards = idle_boards E.farm }
  pub wants : AllByRecursion (λ m. HasWant E.farm m.number m) (members D.farm group)

pub takes_begin : (D : Seen) (group : ℕ) → IsSound D.farm → D.queues.boards ≡ idle_boards D.farm → Takes D D group 0
takes_begin D group sound free = record {
  rest = refl;
  queues = λ i. record D.queues { boards = free i };
  wants = wants_own D.farm group sound;
}

module _ (D E : Seen) (group at : ℕ) (takes : Takes D E group at) (numbers : List ℕ) (are : numbers ≡ numbers_of (members D.farm group)) where
  long : length numbers ≡ length (members D.farm group)
  long = ap length are ∙ length-map (members D.farm group) (λ (m : JobRow). m.number)

  pub takes_on : at < length numbers → (G : Seen) → ((j : JobRow) → HasWant E.farm (get_or numbers at 0) j → Collects E j G) → Takes D G group (at + 1)
  takes_on low G collects =
      let it = split (λ m. HasWant E.farm m.number m) (members D.farm group) at takes.wants (omega (arith, long, low)) in
      let number : get_or numbers at 0 ≡ it.0.number = ap (λ ns. get_or ns at 0) are ∙ it.2 in
      let made = collects it.0 (subst (λ n. HasWant E.farm n it.0) (sym number) it.3) in
      let farm : G.farm ≡ collect_member E.farm it.0 = ap (λ (H : Seen). H.farm) made in
      record {
        rest = (λ i. fold collect_member (farm i) (drop (add-one at i) (members D.farm group))) ∙ sym (ap (fold collect_member E.farm) it.1) ∙ takes.rest;
        queues = ap (λ (H : Seen). H.queues) made ∙ (λ i. record (takes.queues i) { boards = idle_boards (sym farm i) });
        wants = AllByRecursion-weaker (λ k has. subst (λ (H : Farm). HasWant H k.number k) (sym farm) (want_stays E.farm it.0 k k.number has)) (members D.farm group) takes.wants;
      }

  pub takes_end : length numbers ≤ at → E.farm ≡ fold collect_member D.farm (members D.farm group)
  takes_end high = sym (ap (fold collect_member E.farm) (no_more (members D.farm group) at (omega (arith, long, high)))) ∙ takes.rest

-- ---- what is given back

abbrev gives_back : ℕ → JobRow → Bool
gives_back group j = (j.group == group) && same_job_state j.state JobState.Scheduling

unlike : (s : JobState) → (s ≡ JobState.Scheduling → ⊥) → same_job_state s JobState.Scheduling ≡ false
unlike JobState.Submitted other = refl
unlike JobState.Scheduling other = absurd (other refl)
unlike JobState.Scheduled other = refl
unlike JobState.Running other = refl
unlike JobState.Canceling other = refl
unlike JobState.Finished other = refl

all_same : {R : Type 0} (p : R → Bool) (f : R → R) (rows : List R) → AllByRecursion (λ r. p r ≡ false) rows → change_where p f rows ≡ rows
all_same p f [] all = refl
all_same p f (r ∷ rows) all = λ i. ap (λ v. cond v (f r) r) all.0 i ∷ all_same p f rows all.1 i

-- where nobody collects there is nothing to give back
module _ (F : Farm) (sound : IsSound F) (zero_is : F.collector ≡ 0) where
  none_gives : AllByRecursion (λ j. gives_back F.collector j ≡ false) F.jobs
  none_gives = AllByRecursion-weaker (λ j other. ap (λ v. (j.group == F.collector) && v) (unlike j.state other) ∙ and-false (j.group == F.collector)) F.jobs
      (none_scheduling F.collector F.jobs zero_is sound.collecting)

  held_by : (h : Holder) → is_job_so F (gives_back F.collector) h ≡ false
  held_by Holder.Nobody = refl
  held_by (Holder.Job n) = grind (arith, found_has)
  held_by (Holder.Res n) = refl

  boards_same : (rows : List BoardRow) → change_where (λ b. is_job_so F (gives_back F.collector) b.holder) freed_board rows ≡ rows
  boards_same [] = refl
  boards_same (b ∷ rows) = λ i. ap (λ v. cond v (freed_board b) b) (held_by b.holder) i ∷ boards_same rows i

  pub back_of_none : giving_back F ≡ F
  back_of_none = λ i. record F { jobs = all_same (gives_back F.collector) unplaced_job F.jobs none_gives i; boards = boards_same F.boards i; collector = sym zero_is i }
