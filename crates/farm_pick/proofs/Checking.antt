-- The checks of a pass take no place in the queue.
use Rattle.std.proofs.Common.{◌&&◌, ◌++◌, ◌+◌, ◌<◌, ◌==◌, ◌∙◌, ◌∷◌, ◌≡◌, ◌≤◌, Bool, List, ap, arith, cond, false, inr, map, refl, subst, sym, true, ℕ, []}
use Rattle.farm_pick.proofs.Names.{all_join, AllByRecursion, AllByRecursion-both, AllByRecursion-weaker, and-false, append-nil, append_assoc, BoardRow}
use Rattle.farm_pick.proofs.Names.{bytes_eq, differs_more, fold, Holder, itself, JobRow, nat_cmp_is, none_pass, State}
use Rattle.std.specs.List.{filter}
use Rattle.std.specs.declared.cmp.Ordering.TheVariants.{Greater}
use Rattle.farm_types.specs.Names.{change_where, check_job, check_one, checks, claim_cmp, claims, Farm, group_claim, has_room, held_board, is_due, IsAmong}
use Rattle.farm_types.specs.Names.{IsSound, job_cmp, leads_claim, put, put_all, queue, waits}
use Rattle.farm_sound.proofs.Lists.{among_append}
use Rattle.farm_pick.proofs.Putting.{claims_added, put_behind}
use Rattle.farm_pick.proofs.Entries.{among_itself}
use Rattle.farm_pick.proofs.Taking.{one_fails}

abbrev AreBelow : ℕ → List JobRow → Type 0
AreBelow n jobs = AllByRecursion (λ j. j.number < n) jobs

-- a job of a new group that doesn't wait
abbrev IsNew : ℕ → JobRow → Type 0
IsNew n j = (n ≤ j.group) × (waits j ≡ false)

-- some such jobs are added
record Checks (F G : Farm) : Type 0 where
  pub new : List JobRow
  pub jobs : G.jobs ≡ F.jobs ++ new
  pub reservations : G.reservations ≡ F.reservations
  pub are : AllByRecursion (IsNew F.next) new

check_all : (bs : List BoardRow) (F : Farm) → AreBelow F.next F.jobs → Checks F (fold check_one F bs)
check_all [] F below = record { new = []; jobs = sym (append-nil F.jobs); reservations = refl; are = tt }
check_all (b ∷ bs) F below = by (has_room F 1) (λ G low. check_all bs G low)
  where
    by : (v : Bool) → ((G : Farm) → AreBelow G.next G.jobs → Checks G (fold check_one G bs))
        → Checks F (fold check_one (cond v (record F {
          jobs = put job_cmp F.jobs (check_job F.next b);
          boards = change_where (λ c. bytes_eq c.name b.name) (held_board (Holder.Job F.next) State.Reserved) F.boards;
          next = F.next + 1;
        }) F) bs)
    by false rest = rest F below
    by true rest =
        let behind : put job_cmp F.jobs (check_job F.next b) ≡ F.jobs ++ check_job F.next b ∷ [] =
        put_behind job_cmp (check_job F.next b) F.jobs
        (AllByRecursion-weaker (λ j low. sym (nat_cmp_is F.next j.number Greater low)) F.jobs below) in
        let is = rest (record F {
          jobs = put job_cmp F.jobs (check_job F.next b);
          boards = change_where (λ c. bytes_eq c.name b.name) (held_board (Holder.Job F.next) State.Reserved) F.boards;
          next = F.next + 1;
        })
        (subst (AreBelow (F.next + 1)) (sym behind)
        (all_join (λ j. j.number < F.next + 1) F.jobs (check_job F.next b ∷ []) (AllByRecursion-weaker (λ j low. omega arith) F.jobs below) (omega arith, tt))) in
        record {
          new = check_job F.next b ∷ is.new;
          jobs = is.jobs ∙ ap (λ js. js ++ is.new) behind ∙ append_assoc F.jobs (check_job F.next b ∷ []) is.new;
          reservations = is.reservations;
          are = ((omega arith, refl), AllByRecursion-weaker (λ j two. (omega (arith, two.0), two.1)) is.new is.are);
        }

-- a job that doesn't wait leads no claim
leads_none : (G : Farm) (j : JobRow) → IsAmong j G.jobs → waits j ≡ false → leads_claim G j ≡ false
leads_none G j at is = ap (λ v. (j.number == j.group) && v) (one_fails (λ r. r.group == j.group) waits j G.jobs at (itself j.group) is)
    ∙ and-false (j.number == j.group)

claims_checked : (F G : Farm) → IsSound F → Checks F G → claims G ≡ claims F
claims_checked F G sound is =
    claims_added F G is.new is.jobs is.reservations
    (AllByRecursion-weaker (λ j row. AllByRecursion-weaker (λ n two. differs_more n.group j.group (omega (arith, two.0, row.group.0, row.number.1))) is.new is.are)
    F.jobs sound.steady.jobs)
    ∙ ap (λ js. claims F ++ map (group_claim G) js)
    (none_pass (leads_claim G) is.new
    (AllByRecursion-weaker (λ n two. leads_none G n (subst (IsAmong n) (sym is.jobs) (among_append n F.jobs is.new (inr two.0))) two.1.1) is.new
    (AllByRecursion-both (λ n. IsAmong n is.new) (IsNew F.next) is.new (among_itself is.new) is.are)))
    ∙ append-nil (claims F)

pub checks_follow : (F : Farm) → IsSound F → queue (checks F F.clock) ≡ queue F
checks_follow F sound =
    ap (put_all claim_cmp []) (claims_checked F (checks F F.clock) sound
    (check_all (filter (is_due F F.clock) F.boards) F (AllByRecursion-weaker (λ j row. row.number.1) F.jobs sound.steady.jobs)))
