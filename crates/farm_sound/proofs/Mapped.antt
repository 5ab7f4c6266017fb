-- A steady farm stays so where rows that pass a test change in their places.
use Rattle.std.proofs.Common.{◌==◌, ◌∙◌, ◌≡◌, ◌≤◌, Bool, IsNone, IsSome, None, Option, Some, ap, arith, map, refl, subst, sym, true}
use Rattle.farm_sound.proofs.Names.{AllByRecursion, AllByRecursion-weaker, board_of, BoardRow, bytes_eq, false≢true, Farm, JobRow, length-map, nat_cmp}
use Rattle.farm_sound.proofs.Names.{option_map, res_of, ResRow, true≢false}
use Rattle.farm_types.specs.Names.{board_cmp, change_where, IsBoardRow, IsJobRow, IsResRow, IsSteady, job_cmp, most_boards_of_type, res_cmp, text_cmp}
use Rattle.farm_sound.proofs.Grow.{IsBoardRow-grows, IsJobRow-grows, IsResRow-grows, IsSteady-edited, no_edit, rows_grow}
use Rattle.farm_sound.proofs.Where.{all_changed, by_cases, changed, changed_keeps, count_map, find_where, sorted_map}

-- what a job keeps for the members that follow it
pub record SameJob (j k : JobRow) : Type 0 where
  pub number : k.number ≡ j.number
  pub group : k.group ≡ j.group
  pub owner : k.owner ≡ j.owner
  pub priority : k.priority ≡ j.priority
  pub checking : k.checking ≡ j.checking

some_map : {R : Type 0} (f : R → R) (o : Option R) → IsSome o → IsSome (option_map f o)
some_map f None some = absurd (false≢true some)
some_map f (Some x) some = refl

none_map : {R : Type 0} (f : R → R) (o : Option R) → IsNone o → IsNone (option_map f o)
none_map f None none = refl
none_map f (Some x) none = absurd (true≢false none)

-- each change keeps the key, and leaves a row that is right
module _ (F : Farm) (steady : IsSteady F) where
  pub IsSteady-boards : (test : BoardRow → Bool) (f : BoardRow → BoardRow) → ((b : BoardRow) → (f b).name ≡ b.name) → ((b : BoardRow) → (f b).kind ≡ b.kind)
      → AllByRecursion (λ b. test b ≡ true → IsBoardRow F (f b)) F.boards → IsSteady (record F { boards = change_where test f F.boards })
  IsSteady-boards test f names kinds right =
      let G : Farm = record F { boards = change_where test f F.boards } in
      let name = changed_keeps (λ (b : BoardRow). b.name) test f names in
      let kind = changed_keeps (λ (b : BoardRow). b.kind) test f kinds in
      IsSteady-edited
      (record (no_edit F steady) {
        farm = G;
        more_boards = λ k there. subst IsSome (sym (find_where (λ r. bytes_eq r.name k) test f (λ r. ap (λ n. bytes_eq n k) (names r)) F.boards))
            (some_map (changed test f) (board_of F k) there);
        boards_sorted = sorted_map board_cmp (changed test f) (λ a b i. text_cmp (name a i) (name b i)) F.boards steady.boards_sorted;
        few = grind (arith, steady.few, length-map F.boards (changed test f));
        few_of_kind = λ k. subst (λ n. n ≤ most_boards_of_type)
            (sym (count_map (λ r. bytes_eq r.kind k) (changed test f) (λ r. ap (λ n. bytes_eq n k) (kind r)) F.boards)) (steady.few_of_kind k);
      })
      (λ grows. let old = rows_grow F G steady grows in
      (AllByRecursion-weaker (IsBoardRow-grows F G grows) (map (changed test f) F.boards) (all_changed (IsBoardRow F) test f F.boards right steady.boards), old.1, old.2))

  pub IsSteady-jobs : (test : JobRow → Bool) (f : JobRow → JobRow) → ((j : JobRow) → SameJob j (f j)) → AllByRecursion (λ j. test j ≡ true → IsJobRow F (f j)) F.jobs
      → IsSteady (record F { jobs = change_where test f F.jobs })
  IsSteady-jobs test f keeps right =
      let G : Farm = record F { jobs = change_where test f F.jobs } in
      let same = λ (j : JobRow). by_cases (SameJob j) (test j) (f j) j (λ _. keeps j)
      (λ _. record { number = refl; group = refl; owner = refl; priority = refl; checking = refl }) in
      IsSteady-edited
      (record (no_edit F steady) {
        farm = G;
        still_jobs = λ n p is. (
          changed test f p,
          find_where (λ r. r.number == n) test f (λ r. ap (λ m. m == n) (keeps r).number) F.jobs ∙ ap (option_map (changed test f)) is,
          (same p).group,
          (same p).owner,
          (same p).priority,
          (same p).checking,
        );
        jobs_sorted = sorted_map job_cmp (changed test f) (λ a b i. nat_cmp ((same a).number i) ((same b).number i)) F.jobs steady.jobs_sorted;
        few = grind (arith, steady.few, length-map F.jobs (changed test f));
      })
      (λ grows. let old = rows_grow F G steady grows in
      (old.0, AllByRecursion-weaker (IsJobRow-grows F G grows) (map (changed test f) F.jobs) (all_changed (IsJobRow F) test f F.jobs right steady.jobs), old.2))

  pub IsSteady-reservations : (test : ResRow → Bool) (f : ResRow → ResRow) → ((r : ResRow) → (f r).number ≡ r.number)
      → AllByRecursion (λ r. test r ≡ true → IsResRow F (f r)) F.reservations → IsSteady (record F { reservations = change_where test f F.reservations })
  IsSteady-reservations test f numbers right =
      let G : Farm = record F { reservations = change_where test f F.reservations } in
      let number = changed_keeps (λ (r : ResRow). r.number) test f numbers in
      IsSteady-edited
      (record (no_edit F steady) {
        farm = G;
        still_none = λ n low none. subst IsNone (sym (find_where (λ r. r.number == n) test f (λ r. ap (λ m. m == n) (numbers r)) F.reservations))
            (none_map (changed test f) (res_of F n) none);
        reservations_sorted = sorted_map res_cmp (changed test f) (λ a b i. nat_cmp (number a i) (number b i)) F.reservations steady.reservations_sorted;
        few = grind (arith, steady.few, length-map F.reservations (changed test f));
      })
      (λ grows. let old = rows_grow F G steady grows in
      (old.0, old.1, AllByRecursion-weaker (IsResRow-grows F G grows) (map (changed test f) F.reservations) (all_changed (IsResRow F) test f F.reservations right steady.reservations)))
