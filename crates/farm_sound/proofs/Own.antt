-- Each row is found by its own key, and no row by the next number.
use Rattle.std.proofs.Common.{◌<◌, ◌==◌, ◌∙◌, ◌∷◌, ◌≡◌, ◌≤◌, Bool, List, None, Some, ap, arith, cond, false, refl, sym, true, ℕ, []}
use Rattle.farm_sound.proofs.Names.{AllByRecursion, AllByRecursion-weaker, board_of, BoardRow, bytes_eq, bytes_eq-Decides, Farm, find, is_eq, is_eq-slice_cmp}
use Rattle.farm_sound.proofs.Names.{job_of, JobRow, Less, nat_tests, Ordering, ranked, res_of, ResRow}
use Rattle.std.specs.List.Sorted.{IsStrictlySortedBy}
use Rattle.farm_types.specs.Names.{board_cmp, IsSteady, job_cmp, res_cmp}
use Rattle.farm_sound.proofs.Lists.{none_found}

pub found_all : {R : Type 0} (cmp : R → R → Ordering) (test : R → R → Bool) → ((r : R) → test r r ≡ true)
    → ((x y : R) → cmp x y ≡ Less → test x y ≡ false) → (rows : List R) → IsStrictlySortedBy cmp rows
    → AllByRecursion (λ j. find (λ r. test r j) rows ≡ Some j) rows
unfolding IsStrictlySortedBy
found_all cmp test self less [] sorted = tt
found_all {R = R} cmp test self less (x ∷ rows) sorted = (rw (self x), later rows sorted.0 (found_all cmp test self less rows sorted.1))
  where
    later : (ys : List R) → AllByRecursion (λ y. cmp x y ≡ Less) ys → AllByRecursion (λ j. find (λ r. test r j) rows ≡ Some j) ys
        → AllByRecursion (λ j. cond (test x j) (Some x) (find (λ r. test r j) rows) ≡ Some j) ys
    later [] l f = tt
    later (y ∷ ys) l f = (rw (less x y l.0) f.0, later ys l.1 f.1)

pub itself : (n : ℕ) → (n == n) ≡ true
itself n = grind (arith, nat_tests)

pub text_itself : (n : List ℕ) → bytes_eq n n ≡ true
text_itself n = (bytes_eq-Decides n n).1 refl

pub differs : (a b : ℕ) → a < b → (a == b) ≡ false
differs a b less = grind (arith, nat_tests)

pub differs_more : (a b : ℕ) → b < a → (a == b) ≡ false
differs_more a b less = grind (arith, nat_tests)

module _ (F : Farm) (steady : IsSteady F) where
  pub own_job : AllByRecursion (λ j. job_of F j.number ≡ Some j) F.jobs
  own_job = found_all job_cmp (λ r j. r.number == j.number) (λ r. itself r.number)
      (λ x y less. differs x.number y.number (ranked x.number y.number Less (sym less))) F.jobs steady.jobs_sorted

  pub own_res : AllByRecursion (λ r. res_of F r.number ≡ Some r) F.reservations
  own_res = found_all res_cmp (λ r j. r.number == j.number) (λ r. itself r.number)
      (λ x y less. differs x.number y.number (ranked x.number y.number Less (sym less))) F.reservations steady.reservations_sorted

  pub own_board : AllByRecursion (λ b. board_of F b.name ≡ Some b) F.boards
  own_board = found_all board_cmp (λ r b. bytes_eq r.name b.name) (λ r. text_itself r.name)
      (λ x y less. sym (is_eq-slice_cmp x.name y.name) ∙ ap is_eq less) F.boards steady.boards_sorted

  pub fresh_job : (n : ℕ) → F.next ≤ n → job_of F n ≡ None
  fresh_job n high = none_found (λ r. r.number == n) F.jobs (AllByRecursion-weaker (λ j is. differs j.number n (omega (arith, is.number.1))) F.jobs steady.jobs)

  pub fresh_res : (n : ℕ) → F.next ≤ n → res_of F n ≡ None
  fresh_res n high = none_found (λ r. r.number == n) F.reservations
      (AllByRecursion-weaker (λ j is. differs j.number n (omega (arith, is.number.1))) F.reservations steady.reservations)

  -- the row with a number is the only one
  pub only_job : (n : ℕ) (j : JobRow) → job_of F n ≡ Some j → AllByRecursion (λ k. k.number ≡ n → k ≡ j) F.jobs
  only_job n j there = AllByRecursion-weaker (λ k own same. let e : Some k ≡ Some j = sym own ∙ ap (job_of F) same ∙ there in cc) F.jobs own_job

  pub only_res : (n : ℕ) (r : ResRow) → res_of F n ≡ Some r → AllByRecursion (λ k. k.number ≡ n → k ≡ r) F.reservations
  only_res n r there = AllByRecursion-weaker (λ k own same. let e : Some k ≡ Some r = sym own ∙ ap (res_of F) same ∙ there in cc) F.reservations own_res

  pub only_board : (b : BoardRow) → board_of F b.name ≡ Some b → AllByRecursion (λ c. c.name ≡ b.name → c ≡ b) F.boards
  only_board b there = AllByRecursion-weaker (λ c own same. let e : Some c ≡ Some b = sym own ∙ ap (board_of F) same ∙ there in cc) F.boards own_board
