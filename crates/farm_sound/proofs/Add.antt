-- A row with the next number is added.
use Rattle.std.proofs.Common.{◌+◌, ◌<◌, ◌==◌, ◌∙◌, ◌≡◌, IsNone, IsSomeAnd, List, None, Option, Some, ap, arith, cond, false, length, refl, subst, sym}
use Rattle.std.proofs.Common.{ℕ}
use Rattle.farm_sound.proofs.Names.{AllByRecursion, AllByRecursion-put, AllByRecursion-weaker, BoardRow, bytes_eq, Equal, Farm, find, find_put_is, found_has}
use Rattle.farm_sound.proofs.Names.{found_passes, Holder, IsTotalOrder, job_of, JobRow, length_put, nat_cmp, nat_cmp_total, nat_tests, on_total, option_map_or}
use Rattle.farm_sound.proofs.Names.{put_sorted, ranked, res_of, ResRow, tied_itself}
use Rattle.farm_types.specs.Names.{held_board, Hold, hold_of, IsHeldBy, IsHeldByKeys, IsJobRow, IsResRow, IsSteady, job_cmp, job_hold, most_jobs}
use Rattle.farm_types.specs.Names.{most_reservations, numbers_end, put, res_cmp, res_hold}
use Rattle.farm_sound.proofs.Grow.{IsSteady-edited, no_edit, rows_grow}
use Rattle.farm_sound.proofs.Own.{differs_more, fresh_job, fresh_res}
use Rattle.farm_sound.proofs.Tests.{same_number}

-- the same holds and the same boards
pub IsHeldByKeys-same : (F G : Farm) → ((h : Holder) → hold_of G h ≡ hold_of F h) → G.boards ≡ F.boards → IsHeldByKeys F → IsHeldByKeys G
IsHeldByKeys-same F G same boards held_board = record {
  boards = subst (AllByRecursion (λ b. IsHeldBy G b b.holder)) (sym boards) (AllByRecursion-weaker (λ b. held_by b b.holder) F.boards held_board.boards);
  rows = λ h x is. subst (λ l. IsSomeAnd (find (λ r. bytes_eq r.name x.board) l) (λ b. b.holder ≡ h)) (sym boards) (held_board.rows h x (sym (same h) ∙ is));
}
  where
    held_by : (b : BoardRow) (h : Holder) → IsHeldBy F b h → IsHeldBy G b h
    held_by b Holder.Nobody is = is
    held_by b h is = same h ∙ is

-- the same jobs, reservations and boards
pub IsHeldByKeys-same_rows : (F G : Farm) → G.jobs ≡ F.jobs → G.reservations ≡ F.reservations → G.boards ≡ F.boards → IsHeldByKeys F → IsHeldByKeys G
IsHeldByKeys-same_rows F G jobs reservations boards held_board = IsHeldByKeys-same F G same boards held_board
  where
    same : (h : Holder) → hold_of G h ≡ hold_of F h
    same Holder.Nobody = refl
    same (Holder.Job n) = ap (λ rows. option_map_or job_hold (find (λ r. r.number == n) rows) None) jobs
    same (Holder.Res n) = ap (λ rows. option_map_or res_hold (find (λ r. r.number == n) rows) None) reservations

pub job_total : IsTotalOrder job_cmp
job_total = on_total (λ (r : JobRow). r.number) nat_cmp_total

pub res_total : IsTotalOrder res_cmp
res_total = on_total (λ (r : ResRow). r.number) nat_cmp_total

-- rows with numbers, one of which is put
module _ {R : Type 0} (number : R → ℕ) (row : R) (rows : List R) where
  pub find_added : (n : ℕ) → find (λ r. number r == n) (put (λ a b. nat_cmp (number a) (number b)) rows row)
      ≡ cond (number row == n) (Some row) (find (λ r. number r == n) rows)
  find_added n =
      find_put_is (λ a b. nat_cmp (number a) (number b)) (on_total number nat_cmp_total) row (λ r. number r == n)
      (λ r tie. ap (λ k. k == n) (ranked (number row) (number r) Equal (sym tie)))
      (λ r here there. subst (λ x. nat_cmp (number row) x ≡ Equal) (grind (arith, nat_tests)) (tied_itself nat_cmp_total (number row))) rows

  -- it is new, and holds nothing: all holds stay
  pub hold_added : (held : R → Option Hold) → find (λ r. number r == number row) rows ≡ None → held row ≡ None → (n : ℕ)
      → option_map_or held (find (λ r. number r == n) (put (λ a b. nat_cmp (number a) (number b)) rows row)) None
      ≡ option_map_or held (find (λ r. number r == n) rows) None
  hold_added held fresh nothing n = grind (arith, find_added n, same_number (number row) n, nat_tests)

-- ---- a job

abbrev pub add_job : JobRow → Farm → Farm
add_job row F = record F { jobs = put job_cmp F.jobs row; next = F.next + 1 }

module _ (F : Farm) (row : JobRow) where
  pub job_of-add : (n : ℕ) → job_of (add_job row F) n ≡ cond (row.number == n) (Some row) (job_of F n)
  job_of-add n = find_added (λ (r : JobRow). r.number) row F.jobs n

  -- an old job is found as before
  job_still : IsSteady F → row.number ≡ F.next → (n : ℕ) (p : JobRow) → job_of F n ≡ Some p → job_of (add_job row F) n ≡ Some p
  job_still steady fresh n p is =
      let low : IsJobRow F p = found_has (IsJobRow F) (λ r. r.number == n) p F.jobs steady.jobs is in
      let at : p.number ≡ n = same_number p.number n (found_passes (λ (r : JobRow). r.number == n) p F.jobs is) in
      let other : (row.number == n) ≡ false = differs_more row.number n (omega (arith, low.number.1, at, fresh)) in
      job_of-add n ∙ rw other is

  pub IsSteady-add_job : row.number ≡ F.next → length F.jobs < most_jobs → F.next < numbers_end → IsJobRow (add_job row F) row → IsSteady F
      → IsSteady (add_job row F)
  IsSteady-add_job fresh room numbers is steady = IsSteady-edited
      (record (no_edit F steady) {
        farm = add_job row F;
        still_jobs = λ n p there. (p, job_still steady fresh n p there, refl, refl, refl, refl);
        higher = omega arith;
        jobs_sorted = put_sorted job_cmp job_total row F.jobs steady.jobs_sorted;
        few = grind (arith, steady.few, length_put job_cmp job_total row F.jobs);
        next = (omega arith, omega arith);
      })
      (λ grows. let old = rows_grow F (add_job row F) steady grows in
      (old.0, AllByRecursion-put job_cmp job_total row (IsJobRow (add_job row F)) is F.jobs old.1, old.2))

  pub IsHeldByKeys-add_job : IsSteady F → row.number ≡ F.next → job_hold row ≡ None → IsHeldByKeys F → IsHeldByKeys (add_job row F)
  IsHeldByKeys-add_job steady fresh nothing held_board = IsHeldByKeys-same F (add_job row F) same refl held_board
    where
      same : (h : Holder) → hold_of (add_job row F) h ≡ hold_of F h
      same (Holder.Job n) = hold_added (λ (r : JobRow). r.number) row F.jobs job_hold (fresh_job F steady row.number (omega (arith, fresh))) nothing n
      same h = refl

-- ---- a reservation

abbrev pub add_res : ResRow → Farm → Farm
add_res row F = record F { reservations = put res_cmp F.reservations row; next = F.next + 1 }

module _ (F : Farm) (row : ResRow) where
  pub IsSteady-add_res : row.number ≡ F.next → length F.reservations < most_reservations → F.next < numbers_end → IsResRow (add_res row F) row → IsSteady F
      → IsSteady (add_res row F)
  IsSteady-add_res fresh room numbers is steady = IsSteady-edited
      (record (no_edit F steady) {
        farm = add_res row F;
        still_none = λ n low none. subst IsNone
            (sym (find_added (λ (r : ResRow). r.number) row F.reservations n
            ∙ ap (λ v. cond v (Some row) (res_of F n)) (differs_more row.number n (omega (arith, low, fresh))))) none;
        higher = omega arith;
        reservations_sorted = put_sorted res_cmp res_total row F.reservations steady.reservations_sorted;
        few = grind (arith, steady.few, length_put res_cmp res_total row F.reservations);
        next = (omega arith, omega arith);
      })
      (λ grows. let old = rows_grow F (add_res row F) steady grows in
      (old.0, old.1, AllByRecursion-put res_cmp res_total row (IsResRow (add_res row F)) is F.reservations old.2))

  pub IsHeldByKeys-add_res : IsSteady F → row.number ≡ F.next → res_hold row ≡ None → IsHeldByKeys F → IsHeldByKeys (add_res row F)
  IsHeldByKeys-add_res steady fresh nothing held_board = IsHeldByKeys-same F (add_res row F) same refl held_board
    where
      same : (h : Holder) → hold_of (add_res row F) h ≡ hold_of F h
      same (Holder.Res n) = hold_added (λ (r : ResRow). r.number) row F.reservations res_hold (fresh_res F steady row.number (omega (arith, fresh))) nothing n
      same h = refl
