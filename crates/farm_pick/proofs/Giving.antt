-- A claim that is given boards leaves the queue, and they are free no more.
use Rattle.std.proofs.Common.{◌&&◌, ◌==◌, ◌||◌, ◌∙◌, ◌∷◌, ◌≡◌, ◌≤◌, Bool, List, Some, ap, arith, cond, false, inl, inr, length, map, not, refl, subst, sym}
use Rattle.std.proofs.Common.{true, ℕ, []}
use Rattle.farm_pick.proofs.Names.{all_true, AllByRecursion-both, AllByRecursion-weaker, among_has, and-false, and-true, BoardRow, by_cases, bytes_eq, fold}
use Rattle.farm_pick.proofs.Names.{given, Holder, IsClaim, IsGroupClaim, itself, JobRow, JobState, length-map, list_any, map_id, nat_list_eq_equiv, only_job}
use Rattle.farm_pick.proofs.Names.{own_job, queue_claims, ResRow, same_number, State}
use Rattle.std.specs.List.{filter, zip}
use Rattle.farm_types.specs.Names.{allocated_reservation, change_where, Claimed, Farm, give, give_group, give_member, give_res, group_claim, held_board}
use Rattle.farm_types.specs.Names.{is_free, is_nobody, is_waiting, IsAmong, IsSound, job_of, least, members, placed_job, queue, res_claim, serves, waits}
use Rattle.farm_types.specs.declared.rows.TypeRow.{TypeRow}
use Rattle.farm_sound.proofs.Claims.{IsResClaim}
use Rattle.farm_sound.proofs.Free.{free_boards}
use Rattle.farm_sound.proofs.Group.{jobs_given}
use Rattle.farm_sound.proofs.Serve.{res_kept}
use Rattle.farm_pick.specs.Follow.{queue_without}
use Rattle.farm_pick.specs.Queued.{IdleBoard, idle_board, idle_boards}
use Rattle.farm_pick.proofs.Entries.{among_itself}
use Rattle.farm_pick.proofs.Taking.{and_other, any_own, given_claim, other, queue_takes, reservations_go, taken, groups_differ, reservations_differ}

-- ---- the free boards

-- a board in someone's hands isn't free, and another stays as it was
free_after : (types : List TypeRow) (h : Holder) (name : List ℕ) → is_nobody h ≡ false → (b : BoardRow)
    → (is_free types (cond (bytes_eq b.name name) (held_board h State.Reserved b) b) ≡ (is_free types b && not (bytes_eq name b.name)))
    × (idle_board (cond (bytes_eq b.name name) (held_board h State.Reserved b) b) ≡ idle_board b)
free_after types h name taken b = (
  rw (nat_list_eq_equiv.symm name b.name) (by (bytes_eq b.name name)),
  by_cases (λ c. idle_board c ≡ idle_board b) (bytes_eq b.name name) (held_board h State.Reserved b) b (λ _. refl) (λ _. refl),
)
  where
    by : (v : Bool) → is_free types (cond v (held_board h State.Reserved b) b) ≡ (is_free types b && not v)
    by true = ap (λ v. serves types (held_board h State.Reserved b) && v) taken ∙ and-false (serves types (held_board h State.Reserved b)) ∙ sym (and-false (is_free types b))
    by false = sym (and-true (is_free types b))

one_given : (types : List TypeRow) (h : Holder) (name : List ℕ) → is_nobody h ≡ false → (boards : List BoardRow)
    → map idle_board (filter (is_free types) (change_where (λ c. bytes_eq c.name name) (held_board h State.Reserved) boards))
    ≡ filter (λ x. not (bytes_eq name x.name)) (map idle_board (filter (is_free types) boards))
one_given types h name is boards =
    taken (λ b. cond (bytes_eq b.name name) (held_board h State.Reserved b) b) (is_free types) (is_free types) idle_board idle_board
    (λ x. not (bytes_eq name x.name)) boards (AllByRecursion-weaker (λ b _. free_after types h name is b) boards (all_true boards))

-- a member's board goes, whatever state the member comes to
pub member_given : (state : JobState) (F : Farm) (m : JobRow) (b : BoardRow)
    → idle_boards (give_member state F (m, b)) ≡ filter (λ x. not (bytes_eq b.name x.name)) (idle_boards F)
member_given state F m b = one_given F.types (Holder.Job m.number) b.name refl F.boards

-- whether a list's boards are others than this one
abbrev is_left : List BoardRow → IdleBoard → Bool
is_left bs x = not (list_any (λ b. bytes_eq b.name x.name) bs)

all_left : (xs : List IdleBoard) → filter (is_left []) xs ≡ xs
all_left [] = refl
all_left (x ∷ xs) = ap (λ ys. x ∷ ys) (all_left xs)

left_twice : (b : BoardRow) (bs : List BoardRow) (xs : List IdleBoard) → filter (is_left bs) (filter (λ x. not (bytes_eq b.name x.name)) xs) ≡ filter (is_left (b ∷ bs)) xs
left_twice b bs [] = refl
left_twice b bs (x ∷ xs) = grind (arith, left_twice b bs xs)

-- each member's board goes
group_given : (ms : List JobRow) (bs : List BoardRow) (F : Farm) → length bs ≡ length ms
    → idle_boards (fold (give_member JobState.Scheduled) F (zip ms bs)) ≡ filter (is_left bs) (idle_boards F)
group_given [] [] F long = sym (all_left (idle_boards F))
group_given [] (b ∷ bs) F long = absurd (omega arith)
group_given (m ∷ ms) [] F long = absurd (omega arith)
group_given (m ∷ ms) (b ∷ bs) F long =
    group_given ms bs (give_member JobState.Scheduled F (m, b)) (omega arith)
    ∙ ap (filter (is_left bs)) (member_given JobState.Scheduled F m b)
    ∙ left_twice b bs (idle_boards F)

-- ---- the claim

-- what the gift of these boards leaves of the queue and of the free boards
abbrev Leaves : Farm → Claimed → List BoardRow → ℕ → Type 0
Leaves F c bs t = (queue (give F c bs t) ≡ queue_without c.number (queue F)) × (idle_boards (give F c bs t) ≡ filter (is_left bs) (idle_boards F))

-- a member that is given a board waits no more
given_waits : (ps : List (JobRow × BoardRow)) (m : JobRow)
    → waits (given JobState.Scheduled ps m) ≡ (waits m && not (list_any (λ (p : JobRow × BoardRow). m.number == p.0.number) ps))
given_waits [] m = sym (and-true (waits m))
given_waits (p ∷ ps) m = elim (m.number == p.0.number) as (λ v. waits (given JobState.Scheduled ps (cond v (placed_job JobState.Scheduled p.1.name m) m))
    ≡ (waits m && not (v || list_any (λ (p : JobRow × BoardRow). m.number == p.0.number) ps))) [
      | true ↦ given_waits ps (placed_job JobState.Scheduled p.1.name m) ∙ sym (and-false (waits m))
      | false ↦ given_waits ps m
    ]

-- each member has a board
zip_any : (n : ℕ) (ms : List JobRow) (bs : List BoardRow) → length bs ≡ length ms
    → list_any (λ (p : JobRow × BoardRow). n == p.0.number) (zip ms bs) ≡ list_any (λ (m : JobRow). n == m.number) ms
zip_any n [] bs long = refl
zip_any n (m ∷ ms) [] long = absurd (omega arith)
zip_any n (m ∷ ms) (b ∷ bs) long = ap (λ v. (n == m.number) || v) (zip_any n ms bs (omega arith))

module _ (F : Farm) (bs : List BoardRow) (t : ℕ) (sound : IsSound F) where
  -- a reservation is given its board
  after_res : (r : ResRow) (c : Claimed) → IsResClaim F c r → length bs ≡ 1 → Leaves F (res_claim r) bs t
  after_res r c is one = by bs one
    where
      by : (bs : List BoardRow) → length bs ≡ 1 → Leaves F (res_claim r) bs t
      by [] one = absurd (omega arith)
      by (b ∷ a ∷ bs) one = absurd (omega arith)
      by (b ∷ []) one = (
        reservations_go F (give_res F r.number (b ∷ []) t) (other r.number) (λ q. q.number == r.number) (allocated_reservation b.name t) sound.steady refl refl (λ q. refl) (λ q. refl)
            (AllByRecursion-weaker (λ j differs. ap not differs) F.jobs (groups_differ F sound.steady r.number r is.0))
            (AllByRecursion-weaker (λ q _. refl) F.reservations (all_true F.reservations)),
        one_given F.types (Holder.Res r.number) b.name refl F.boards ∙ sym (all_left _) ∙ left_twice b [] (idle_boards F),
      )

  -- a group is given its boards
  after_group : (j : JobRow) (c : Claimed) → IsGroupClaim F c j → length bs ≡ length (members F j.group) → Leaves F (group_claim F j) bs t
  after_group j c is long = (
    queue_takes F (give_group F j.group bs) (other j.group) (given JobState.Scheduled (zip (members F j.group) bs)) (λ r. r)
        (record {
          jobs = jobs_given JobState.Scheduled (zip (members F j.group) bs) F;
          reservations = res_kept (zip (members F j.group) bs) F ∙ sym (map_id F.reservations);
          same_job = given_claim JobState.Scheduled (zip (members F j.group) bs);
          same_res = λ r. refl;
          jobs_wait = AllByRecursion-weaker (λ m two. waits_after m two.0 two.1) F.jobs
              (AllByRecursion-both (λ m. IsAmong m F.jobs) (λ m. job_of F m.number ≡ Some m) F.jobs (among_itself F.jobs) (own_job F sound.steady));
          reservations_wait = AllByRecursion-weaker (λ r differs. and_other (is_waiting r) r.number j.group differs) F.reservations
              (reservations_differ F sound.steady j.number j is.0);
        })
        sound.steady,
    group_given (members F j.group) bs F long,
  )
    where
      waits_after : (m : JobRow) → IsAmong m F.jobs → job_of F m.number ≡ Some m
          → waits (given JobState.Scheduled (zip (members F j.group) bs) m) ≡ (waits m && other j.group m.group)
      waits_after m at own =
          given_waits (zip (members F j.group) bs) m
          ∙ ap (λ v. waits m && not v)
          (zip_any m.number (members F j.group) bs long
          ∙ any_own (λ k. k.group == j.group) (λ k. m.number == k.number) m F.jobs at (itself m.number)
          (AllByRecursion-weaker (λ k only same. only (sym (same_number m.number k.number same))) F.jobs (only_job F sound.steady m.number m own)))

-- a claim of the queue that is met
pub giving_follows : (F : Farm) (c : Claimed) (bs : List BoardRow) (t : ℕ) → IsSound F → t ≤ F.clock → IsAmong c (queue F)
    → least F.boards (is_free F.types) c.wants ≡ Some bs → Leaves F c bs t
giving_follows F c bs t sound low at found = by (among_has (IsClaim F) c (queue F) (queue_claims F sound.steady) at)
  where
    by : IsClaim F c → Leaves F c bs t
    by (inl (r, is)) =
        let long : length bs ≡ 1 = (free_boards F c.wants bs sound.steady found).2 ∙ ap (λ (e : Claimed). length e.wants) is.2 in
        subst (λ d. Leaves F d bs t) (sym is.2) (after_res F bs t sound r c is long)
    by (inr (j, is)) =
        let long : length bs ≡ length (members F j.group) =
        (free_boards F c.wants bs sound.steady found).2 ∙ ap (λ (e : Claimed). length e.wants) is.2 ∙ length-map (members F j.group) (λ m. m.want) in
        subst (λ d. Leaves F d bs t) (sym is.2) (after_group F bs t sound j c is long)
