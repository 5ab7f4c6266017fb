-- The types of the queues.
use Rattle.std.proofs.Common.{◌≡◌, ◌∙◌, ◌||◌, ◌==◌, ◌<◌, ◌≤◌, ◌+◌, ◌++◌, ◌⊎◌, ℕ, zero, suc, List, [], ◌∷◌, length, map, Bool, true, false, Some, None}
use Rattle.std.proofs.Common.{slice_get, get_or, inl, inr, refl, sym, ap, subst, arith, add-one, Option}
use Rattle.std.specs.Prelude.{unwrap_or}
use mathlib.Core.Bool.{true≢false}
use Rattle.farm_pick.proofs.Names.{AllByRecursion, bytes_eq, bytes_eq-Decides, differs, differs_more, list_any, nat_list_eq_equiv, nat_tests, option_map_or}
use Rattle.farm_pick.proofs.Names.{same_Some}
use Rattle.std.specs.List.{position, position_or_len}
use Rattle.std.proofs.lemmas.List.Quantifiers.{position-Some}
use Rattle.std.proofs.lemmas.List.Sums.{fails_before_first}
use Rattle.std.proofs.lemmas.Bool.Decides.{Decides-eqb, same_from_decides}
use Rattle.std.proofs.lemmas.Option.{slice_get-get_or}
use Rattle.farm_pick.specs.Queued.{is_open, same_kind}
use Rattle.farm_pick.specs.Index.{kind_at, AreKinds, IsIdle, shown_idle}
use Rattle.farm_pick.specs.Heads.{queue_open}
use Rattle.farm_pick.specs.declared.idle.IdleRow.{IdleRow}

-- ---- the place of a type

pub kind_found : (kinds : List (List ℕ)) (kind : List ℕ) (i : ℕ) → Some i ≡ position (λ k. bytes_eq k kind) kinds → (i < length kinds) × (slice_get kinds i ≡ Some kind)
kind_found kinds kind i is =
    let at = position-Some (λ k. bytes_eq k kind) kinds i [] (sym is) in
    (at.0, slice_get-get_or kinds i [] at.0 ∙ ap Some ((bytes_eq-Decides (get_or kinds i []) kind).0 at.1))

pub kind_nowhere : (kinds : List (List ℕ)) (kind : List ℕ) → None ≡ position (λ k. bytes_eq k kind) kinds
    → (i : ℕ) → i < length kinds → option_map_or (λ k. bytes_eq k kind) (slice_get kinds i) false ≡ false
kind_nowhere kinds kind none i low =
    let far : i < position_or_len (λ k. bytes_eq k kind) kinds = grind (arith, nat_tests) in
    ap (λ o. option_map_or (λ k. bytes_eq k kind) o false) (slice_get-get_or kinds i [] low) ∙ fails_before_first (λ k. bytes_eq k kind) kinds i [] far

-- ---- a new type

last_or_old : (kinds : List (List ℕ)) (k : List ℕ) (i : ℕ) (a : List ℕ) → slice_get (kinds ++ k ∷ []) i ≡ Some a
    → ((i < length kinds) × (slice_get kinds i ≡ Some a)) ⊎ ((i ≡ length kinds) × (k ≡ a))
last_or_old [] k zero a is = inr (refl, same_Some k a is)
last_or_old [] k (suc i) a is = cc
last_or_old (x ∷ kinds) k zero a is = inl (omega arith, is)
last_or_old (x ∷ kinds) k (suc i) a is = grind (arith, last_or_old kinds k i a is)

pub same_bytes_back : (a b : List ℕ) → bytes_eq a b ≡ true → bytes_eq b a ≡ true
same_bytes_back a b is = nat_list_eq_equiv.symm b a ∙ is

pub kinds_pushed : (kinds : List (List ℕ)) (k : List ℕ) → ((i : ℕ) → i < length kinds → option_map_or (λ own. bytes_eq own k) (slice_get kinds i) false ≡ false)
    → AreKinds kinds → AreKinds (kinds ++ k ∷ [])
kinds_pushed kinds k none apart = λ i j a b one other same. elim (last_or_old kinds k i a one) [
  | inl x ↦ elim (last_or_old kinds k j b other) [
    | inl y ↦ apart i j a b x.1 y.1 same
    | inr y ↦ absurd (absent i a x.0 x.1 (ap (bytes_eq a) y.1 ∙ same))
  ]
  | inr x ↦ elim (last_or_old kinds k j b other) [
    | inl y ↦ absurd (absent j b y.0 y.1 (ap (bytes_eq b) x.1 ∙ same_bytes_back a b same))
    | inr y ↦ x.0 ∙ sym y.0
  ]
]
  where
    absent : (i : ℕ) (a : List ℕ) → i < length kinds → slice_get kinds i ≡ Some a → bytes_eq a k ≡ true → ⊥
    absent i a low at is = true≢false (sym is ∙ ap (λ o. option_map_or (λ own. bytes_eq own k) o false) (sym at) ∙ none i low)

-- ---- open queues

any_same : {A B : Type 0} (f : A → B) (p : A → Bool) (q : B → Bool) (P : A → Type 0) → ((x : A) → P x → p x ≡ q (f x)) → (xs : List A) → AllByRecursion P xs
    → list_any p xs ≡ list_any q (map f xs)
any_same f p q P each [] all = refl
any_same f p q P each (x ∷ xs) all =
    ap (λ v. v || list_any p xs) (each x all.0) ∙ ap (λ v. q (f x) || v) (any_same f p q P each xs all.1)

pub suc_test : (n q : ℕ) → ((suc q == 0) || (suc n == suc q)) ≡ (n == q)
suc_test n q = grind (arith, nat_tests)

module _ (kinds : List (List ℕ)) (apart : AreKinds kinds) where
  pub kind_there : (i : ℕ) → i < length kinds → (a : List ℕ) × (slice_get kinds i ≡ Some a)
  kind_there i low = (get_or kinds i [], slice_get-get_or kinds i [] low)

  -- two queues are one where their types are
  pub same_queue : (p q : ℕ) (k : List ℕ) → p < length kinds → slice_get kinds q ≡ Some k → (p == q) ≡ bytes_eq (unwrap_or (slice_get kinds p) []) k
  same_queue p q k low at =
      let a = kind_there p low in
      same_from_decides (p == q) (bytes_eq a.0 k) (Decides-eqb p q) (
        (λ same. apart p q a.0 k a.1 at same),
        (λ same. (bytes_eq-Decides a.0 k).1 (same_Some a.0 k (sym a.1 ∙ ap (slice_get kinds) same ∙ at))),
      ) ∙ ap (λ o. bytes_eq (unwrap_or o []) k) (sym a.1)

  pub same_open : (rows : List IdleRow) → AllByRecursion (IsIdle kinds) rows → (q : ℕ) → q ≤ length kinds → queue_open rows q ≡ is_open (map (shown_idle kinds) rows) (kind_at kinds q)
  same_open rows all zero low = any_same (shown_idle kinds) (λ r. (0 == 0) || (r.queue == 0)) (λ b. true) (IsIdle kinds) (λ r i. refl) rows all
  same_open rows all (suc q) low =
      any_same (shown_idle kinds) (λ r. (suc q == 0) || (r.queue == suc q)) (λ b. bytes_eq b.kind k.0) (IsIdle kinds) (λ r idle. each r.queue idle.low idle.high) rows all
      ∙ ap (is_open (map (shown_idle kinds) rows)) (sym k.1)
    where
      k : (k : List ℕ) × (slice_get kinds q ≡ Some k)
      k = kind_there q (omega arith)

      each : (n : ℕ) → 1 ≤ n → n ≤ length kinds → ((suc q == 0) || (n == suc q)) ≡ bytes_eq (unwrap_or (kind_at kinds n) []) k.0
      each zero low high = absurd (omega arith)
      each (suc n) low high = suc_test n q ∙ same_queue n q k.0 (omega arith) k.1

  -- two queues are one where they are of one type
  pub same_kinds : (p q : ℕ) → p ≤ length kinds → q ≤ length kinds → (q == p) ≡ same_kind (kind_at kinds p) (kind_at kinds q)
  same_kinds zero zero one other = refl
  same_kinds zero (suc q) one other = let a = kind_there q (omega arith) in rw a.1 (differs_more (suc q) 0 (omega arith))
  same_kinds (suc p) zero one other = let a = kind_there p (omega arith) in rw a.1 (differs 0 (suc p) (omega arith))
  same_kinds (suc p) (suc q) one other =
      let a = kind_there p (omega arith) in
      let b = kind_there q (omega arith) in
      let numbers : (suc q == suc p) ≡ (q == p) = grind (arith, nat_tests) in
      numbers ∙ same_queue q p a.0 (omega arith) a.1 ∙ rw (b.1, a.1) (nat_list_eq_equiv.symm b.0 a.0)

  -- the queue that a want asks for
  asked_there : (at : ℕ) (kind : List ℕ) → slice_get kinds at ≡ Some kind → (q : ℕ) → 1 ≤ q → q ≤ length kinds
      → ((at + 1 == 0) || (q == at + 1)) ≡ bytes_eq (unwrap_or (kind_at kinds q) []) kind
  asked_there at kind is zero low high = absurd (omega arith)
  asked_there at kind is (suc p) low high = rw add-one (suc_test p at ∙ same_queue p at kind (omega arith) is)

  asked_nowhere : (kind : List ℕ) → ((i : ℕ) → i < length kinds → option_map_or (λ k. bytes_eq k kind) (slice_get kinds i) false ≡ false)
      → (q : ℕ) → 1 ≤ q → q ≤ length kinds → ((length kinds + 1 == 0) || (q == length kinds + 1)) ≡ bytes_eq (unwrap_or (kind_at kinds q) []) kind
  asked_nowhere kind none zero low high = absurd (omega arith)
  asked_nowhere kind none (suc p) low high =
      let a = kind_there p (omega arith) in
      rw add-one (suc_test p (length kinds) ∙ differs p (length kinds) (omega arith)
      ∙ sym (ap (λ o. bytes_eq (unwrap_or o []) kind) a.1 ∙ ap (λ o. option_map_or (λ k. bytes_eq k kind) o false) (sym a.1) ∙ none p (omega arith)))

  pub asked_place : (at : Option ℕ) (kind : List ℕ) → at ≡ position (λ k. bytes_eq k kind) kinds → (q : ℕ) → 1 ≤ q → q ≤ length kinds
      → ((unwrap_or at (length kinds) + 1 == 0) || (q == unwrap_or at (length kinds) + 1)) ≡ bytes_eq (unwrap_or (kind_at kinds q) []) kind
  asked_place (Some at) kind is = asked_there at kind (kind_found kinds kind at is).1
  asked_place None kind is = asked_nowhere kind (kind_nowhere kinds kind is)

pub kinds_after : (kinds seen pushed : List (List ℕ)) (k kind : List ℕ) → seen ≡ kinds → k ≡ kind → pushed ≡ kinds ++ k ∷ []
    → ((i : ℕ) → i < length seen → option_map_or (λ own. bytes_eq own kind) (slice_get seen i) false ≡ false) → AreKinds kinds → AreKinds pushed
kinds_after kinds seen pushed k kind same copied is none apart =
    subst AreKinds (sym is) (kinds_pushed kinds k (subst (λ n. (i : ℕ) → i < length kinds → option_map_or (λ own. bytes_eq own n) (slice_get kinds i) false ≡ false) (sym copied)
    (subst (λ ks. (i : ℕ) → i < length ks → option_map_or (λ own. bytes_eq own kind) (slice_get ks i) false ≡ false) same none)) apart)
