-- A list in weak order, with the elements of a list without ties, is in strict order; and a list in strict order is known by its elements.
use Rattle.std.proofs.Common.{◌≡◌, ◌≢◌, inl, inr, ℕ, zero, suc, ◌+◌, ◌<◌, ◌≤◌, List, [], ◌∷◌, length, get_or, true, false, cond, All, refl, sym, ap, subst, ◌∙◌}
use Rattle.std.proofs.Common.{arith, Ordering, Less, Equal, Greater, is_eq, is_lt}
use Rattle.farm_store.proofs.Names.{All-permutation, all_from, all_has, AllByRecursion, cases_Bool, Has, IsAscending, IsPermutation, IsSorted, IsStrict}
use Rattle.farm_store.proofs.Names.{IsTotalOrder, ordering_reverse, ranks_by, sorted_far, sum_by, tied_back, tied_itself}
use Rattle.std.proofs.lemmas.List.Sums.{sum_by-cons}

module _ {A : Type 0} where
  has_at : (xs : List A) (k : ℕ) (d : A) → k < length xs → Has xs (get_or xs k d)
  has_at [] k d low = absurd (omega arith)
  has_at (x ∷ xs) zero d low = inl refl
  has_at (x ∷ xs) (suc k) d low = inr (has_at xs k d (omega arith))

  all_to : (P : A → Type 0) (xs : List A) → All P xs → (a : A) → Has xs a → P a
  all_to P [] all a h = absurd h
  all_to P (x ∷ xs) all a (inl same) = subst P (sym same) (all 0 x (omega arith))
  all_to P (x ∷ xs) all a (inr later) = all_to P xs (λ k d low. all (suc k) d (omega arith)) a later

  pub permuted : (xs ys : List A) → IsPermutation xs ys → (a : A) → Has ys a → Has xs a
  permuted xs ys same a h = all_to (Has xs) ys (All-permutation (Has xs) xs ys same (λ k d low. has_at xs k d low)) a h

module _ {A : Type 0} {c : A → A → Ordering} (total : IsTotalOrder c) where
  pub tied : A → A → ℕ
  tied a x = cond (is_eq (c x a)) 1 0

  is_tied : (o : Ordering) → is_eq o ≡ true → o ≡ Equal
  is_tied Less h = absurd (cc)
  is_tied Equal h = refl
  is_tied Greater h = absurd (cc)

  not_tied : (o : Ordering) → o ≢ Equal → is_eq o ≡ false
  not_tied Less h = refl
  not_tied Equal h = absurd (h refl)
  not_tied Greater h = refl

  no_ties : (a : A) (xs : List A) → ((x : A) → Has xs x → c x a ≢ Equal) → sum_by (tied a) xs ≡ 0
  unfolding tied
  no_ties a [] none = refl
  no_ties a (x ∷ xs) none = let e = not_tied (c x a) (none x (inl refl)) in let sum : sum_by (tied a) (x ∷ xs) ≡ 0 + sum_by (tied a) xs = sum_by-cons (tied a) x xs ∙ rw e in omega (arith, sum, no_ties a xs (λ y h. none y (inr h)))

  pub at_most_one : (a : A) (xs : List A) → IsAscending (λ x y. c x y ≢ Equal) xs → sum_by (tied a) xs ≤ 1
  unfolding tied
  at_most_one a [] apart = omega arith
  at_most_one a (x ∷ xs) apart = elim (cases_Bool (is_eq (c x a))) [
    | inl here ↦
        let tie = is_tied (c x a) here in
        let none = no_ties a xs (λ y h other. all_has (λ z. c x z ≢ Equal) xs y apart.0 h (total.congr x a y tie ∙ tied_back total y a other)) in
        let sum : sum_by (tied a) (x ∷ xs) ≡ 1 + 0 = sum_by-cons (tied a) x xs ∙ rw (here, none) in omega (arith, sum)
    | inr other ↦
        let sum : sum_by (tied a) (x ∷ xs) ≡ 0 + sum_by (tied a) xs = sum_by-cons (tied a) x xs ∙ rw other in omega (arith, sum, at_most_one a xs apart.1)
  ]

  some_tie : (a : A) (xs : List A) (x : A) → Has xs x → c x a ≡ Equal → 1 ≤ sum_by (tied a) xs
  unfolding tied
  some_tie a [] x h tie = absurd h
  some_tie a (y ∷ xs) x (inl same) tie =
      let e : is_eq (c y a) ≡ true = ap is_eq (ap (λ z. c z a) (sym same) ∙ tie) in
      let sum : sum_by (tied a) (y ∷ xs) ≡ 1 + sum_by (tied a) xs = sum_by-cons (tied a) y xs ∙ rw e in omega (arith, sum)
  some_tie a (y ∷ xs) x (inr later) tie = omega (arith, sum_by-cons (tied a) y xs, some_tie a xs x later tie)

  below : (o r : Ordering) → o ≡ ordering_reverse r → is_lt r ≡ false → o ≢ Equal → o ≡ Less
  below Less r turned h apart = refl
  below Equal r turned h apart = absurd (apart refl)
  below Greater Less turned h apart = absurd (let e = h in cc)
  below Greater Equal turned h apart = absurd (cc)
  below Greater Greater turned h apart = absurd (cc)

  head_below : (x : A) (xs : List A) → IsSorted c (x ∷ xs) → ((a : A) → sum_by (tied a) (x ∷ xs) ≤ 1) → AllByRecursion (λ y. c x y ≡ Less) xs
  unfolding tied
  head_below x xs up most =
      all_from _ xs (λ y h. below (c x y) (c y x) (total.antisymm x y) (all_to (λ z. is_lt (c z x) ≡ false) xs (λ k d low. sorted_far _ (ranks_by total (λ a. a)) (x ∷ xs) up 0 (suc k) d (omega arith) (omega arith)) y h)
      (λ tie.
      let self : is_eq (c x x) ≡ true = ap is_eq (tied_itself total x) in
      let sum : sum_by (tied x) (x ∷ xs) ≡ 1 + sum_by (tied x) xs = sum_by-cons (tied x) x xs ∙ rw self in
      omega (arith, sum, most x, some_tie x xs y h (tied_back total x y tie))))

  pub strictly : (xs : List A) → IsSorted c xs → ((a : A) → sum_by (tied a) xs ≤ 1) → IsStrict c xs
  strictly [] up most = tt
  strictly (x ∷ xs) up most =
      (head_below x xs up most, strictly xs (λ k d low high. let e = up (suc k) d (omega arith) (omega arith) in rw (add_suc k) at e) (λ a. omega (arith, most a, sum_by-cons (tied a) x xs)))
    where
      add_suc : (k : ℕ) → suc k + 1 ≡ suc (k + 1)
      add_suc k = omega arith

  never_self : (x : A) → c x x ≢ Less
  never_self x low = let e = sym low ∙ tied_itself total x in cc

  never_back : (x y : A) → c x y ≡ Less → c y x ≢ Less
  never_back x y low back = never_self x (total.trans x y x low back)

  -- a list in strict order is known by its elements
  pub same_rows : (xs ys : List A) → IsStrict c xs → IsStrict c ys → ((a : A) → Has xs a → Has ys a) → ((a : A) → Has ys a → Has xs a) → xs ≡ ys
  same_rows [] [] up other there back = refl
  same_rows [] (y ∷ ys) up other there back = absurd (back y (inl refl))
  same_rows (x ∷ xs) [] up other there back = absurd (there x (inl refl))
  same_rows (x ∷ xs) (y ∷ ys) up other there back =
      let lower = λ (b : A) (h : Has xs b). all_has (λ z. c x z ≡ Less) xs b up.0 h in
      let lower2 = λ (b : A) (h : Has ys b). all_has (λ z. c y z ≡ Less) ys b other.0 h in
      let first : x ≡ y = elim (there x (inl refl)) [
        | inl same ↦ same
        | inr later ↦ elim (back y (inl refl)) [ inl same ↦ sym same | inr deep ↦ absurd (never_back x y (lower y deep) (lower2 x later)) ]
      ] in
      let more = same_rows xs ys up.1 other.1
      (λ a h. elim (there a (inr h)) [ inl same ↦ absurd (never_self x (subst (λ b. c x b ≡ Less) (same ∙ sym first) (lower a h))) | inr later ↦ later ])
      (λ a h. elim (back a (inr h)) [ inl same ↦ absurd (never_self y (subst (λ b. c y b ≡ Less) (same ∙ first) (lower2 a h))) | inr later ↦ later ]) in
      cc
