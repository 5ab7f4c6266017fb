-- A group is submitted, member by member.
use Rattle.std.proofs.Common.{◌+◌, ◌-◌, ◌<◌, ◌∙◌, ◌∷◌, ◌≡◌, ◌≢◌, ◌≤◌, IfSome, IsNone, IsSome, IsSomeAnd, IsTrue, List, Option, Some, ap, arith, cond, false}
use Rattle.std.proofs.Common.{length, refl, subst, sym, ℕ, []}
use Rattle.farm_sound.proofs.Names.{AllByRecursion, AllByRecursion-put, AllByRecursion-weaker, false≢true, Farm, job_of, JobRow, JobState, length_put, put_jobs}
use Rattle.farm_sound.proofs.Names.{type_of, Want}
use Rattle.farm_types.specs.Names.{is_priority, is_want, IsJobRow, IsJobText, IsName, IsSound, IsText, job_cmp, longest_text, most_jobs, new_job, new_members}
use Rattle.farm_types.specs.Names.{numbers_end, phase, put, put_all}
use Rattle.farm_sound.proofs.Add.{IsHeldByKeys-add_job, IsSteady-add_job, add_job, job_of-add, job_total}
use Rattle.farm_sound.proofs.Collecting.{IsCollecting-add}
use Rattle.farm_sound.proofs.Own.{differs_more, fresh_res, itself}
use Rattle.farm_sound.proofs.Rows.{new_words, no_job_text}
use Rattle.farm_sound.proofs.Whole.{AreGroupsInPhase-add}

-- what holds before a member with the farm's next number is added
pub record Next (F : Farm) (group : ℕ) (owner : List ℕ) (priority : ℕ) (body : List ℕ) : Type 0 where
  pub low : group ≤ F.next
  pub waits : AllByRecursion (λ m. m.group ≡ group → m.state ≡ JobState.Submitted) F.jobs
  pub previous : F.next ≢ group → (p : JobRow) × (job_of F (F.next - 1) ≡ Some p) × (p.group ≡ group) × (p.owner ≡ owner) × (p.priority ≡ priority) ×
      (p.checking ≡ false)
  pub text : F.next ≢ group → body ≡ []
  pub carried : IsJobText body

abbrev IsMemberWant : Farm → Want → Type 0
IsMemberWant F w = IsSomeAnd w.kind (λ kind. IsSome (type_of F kind)) × IsTrue (is_want w)

module _ (F : Farm) (group : ℕ) (owner : List ℕ) (priority : ℕ) (want : Want) (role : Option (List ℕ)) (body : List ℕ) (sound : IsSound F)
    (next : Next F group owner priority body) (name : IsName owner) (prio : IsTrue (is_priority priority)) (wanted : IsMemberWant F want)
    (named : IfSome role IsName) (in_group : F.next < group + 4) where
  abbrev row : JobRow
  row = new_job F.next group owner priority want role body

  -- the previous member is found as before
  still : (p : JobRow) → F.next ≢ group → job_of F (F.next - 1) ≡ Some p → job_of (add_job row F) (F.next - 1) ≡ Some p
  still p later is =
      job_of-add F row (F.next - 1) ∙ ap (λ v. cond v (Some row) (job_of F (F.next - 1)))
      (differs_more F.next (F.next - 1) (omega (arith, sound.steady.next.0))) ∙ is

  member_row : IsJobRow (add_job row F) row
  member_row = record {
    number = (sound.steady.next.0, omega arith);
    apart = subst IsNone (sym (fresh_res F sound.steady F.next (omega arith))) refl;
    words = new_words F.next group owner priority want role body name prio wanted.1 named next.carried;
    kind = wanted.0;
    board = tt;
    outcome = (λ e. absurd (false≢true e), λ e. cc);
    waits = λ _. refl;
    holds = λ e. absurd (false≢true e);
    group = (next.low, in_group);
    follows = λ later.
        let p = next.previous later in
        record { previous = p.0; there = still p.0 later p.1; group = p.2; owner = p.3; priority = p.4; ordinary = p.5; body = next.text later };
    check = λ so. absurd (false≢true so);
  }

  pub member_sound : length F.jobs < most_jobs → F.next < numbers_end → IsSound (add_job row F)
  member_sound room numbers = record {
    steady = IsSteady-add_job F row refl room numbers member_row sound.steady;
    held = IsHeldByKeys-add_job F row sound.steady refl refl sound.held;
    whole = AreGroupsInPhase-add F row (AllByRecursion-weaker (λ m is same. ap phase (is same)) F.jobs next.waits) sound.whole;
    collecting = IsCollecting-add F row sound.steady refl (λ e. cc) (λ _ _. refl) sound.collecting;
  }

  pub member_next : Next (add_job row F) group owner priority []
  member_next = record {
    low = omega (arith, next.low);
    waits = AllByRecursion-put job_cmp job_total row (λ m. m.group ≡ group → m.state ≡ JobState.Submitted) (λ _. refl) F.jobs next.waits;
    previous = λ later. (
      row,
      (let e : F.next + 1 - 1 ≡ F.next = omega arith in
          ap (job_of (add_job row F)) e ∙ job_of-add F row F.next ∙ ap (λ v. cond v (Some row) (job_of F F.next)) (itself F.next)),
      refl,
      refl,
      refl,
      refl,
    );
    text = λ later. refl;
    carried = no_job_text;
  }

pub members_sound : (wants : List Want) (roles : List (Option (List ℕ))) (F : Farm) (group : ℕ) (owner : List ℕ) (priority : ℕ) (body : List ℕ)
    → IsSound F → Next F group owner priority body → IsName owner → IsTrue (is_priority priority)
    → AllByRecursion (IsMemberWant F) wants → AllByRecursion (λ r. IfSome r IsName) roles → length roles ≡ length wants
    → F.next + length wants ≤ group + 4 → length F.jobs + length wants ≤ most_jobs → F.next + length wants ≤ numbers_end
    → IsSound (record (put_jobs F (new_members group F.next owner priority wants roles body)) { next = F.next + length wants })
members_sound [] [] F group owner priority body sound next name prio wanted named long in_group room numbers =
    subst (λ n. IsSound (record F { next = n })) (omega arith) sound
members_sound [] (role ∷ roles) F group owner priority body sound next name prio wanted named long in_group room numbers = absurd (omega arith)
members_sound (want ∷ wants) [] F group owner priority body sound next name prio wanted named long in_group room numbers = absurd (omega arith)
members_sound (want ∷ wants) (role ∷ roles) F group owner priority body sound next name prio wanted named long in_group room numbers =
    let one = new_job F.next group owner priority want role body in
    let more : length (put job_cmp F.jobs one) ≤ length F.jobs + 1 = length_put job_cmp job_total one F.jobs in
    subst (λ n. IsSound (record F {
      jobs = put_all job_cmp (put job_cmp F.jobs one) (new_members group (F.next + 1) owner priority wants roles []);
      next = n;
    })) (omega arith)
    (members_sound wants roles (add_job one F) group owner priority []
    (member_sound F group owner priority want role body sound next name prio wanted.0 named.0 (omega arith) (omega arith) (omega arith))
    (member_next F group owner priority want role body sound next name prio wanted.0 named.0 (omega arith))
    name prio wanted.1 named.1 (omega arith) (omega arith) (omega (arith, more)) (omega arith))

-- a whole group: its number is its first member's
pub IsSound-submit : (F : Farm) (owner : List ℕ) (priority : ℕ) (wants : List Want) (roles : List (Option (List ℕ))) (body : List ℕ) → IsSound F
    → IsName owner → IsTrue (is_priority priority) → length body ≤ longest_text → IsText body
    → AllByRecursion (IsMemberWant F) wants → AllByRecursion (λ r. IfSome r IsName) roles → length roles ≡ length wants → length wants ≤ 4
    → length F.jobs + length wants ≤ most_jobs → F.next + length wants ≤ numbers_end
    → IsSound (record (put_jobs F (new_members F.next F.next owner priority wants roles body)) { next = F.next + length wants })
IsSound-submit F owner priority wants roles body sound name prio few utf8 wanted named long four room numbers =
    members_sound wants roles F F.next owner priority body sound
    (record {
      low = omega arith;
      waits = AllByRecursion-weaker (λ m is same. absurd (omega (arith, is.number.1, is.group.0, same))) F.jobs sound.steady.jobs;
      previous = λ later. absurd (later refl);
      text = λ later. absurd (later refl);
      carried = record { few = few; utf8 = utf8 };
    })
    name prio wanted named long (omega arith) room numbers
