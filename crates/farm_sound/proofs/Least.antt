-- The first list of boards that meets the wants is the least one.
use Rattle.std.proofs.Common.{[], ◌&&◌, ◌++◌, ◌∷◌, ◌≡◌, Bool, List, None, Ordering, Some, arith, false, inl, inr, length, map, refl, subst, suc}
use Rattle.std.proofs.Common.{true, zero, ℕ}
use Rattle.farm_sound.proofs.Names.{AllByRecursion, BoardRow, false≢true, find, flat_map, found_has, found_passes, IsTotalOrder, Less}
use Rattle.std.specs.List.Sorted.{IsStrictlySortedBy}
use Rattle.farm_sound.proofs.Names.{list_all, nat_list_cmp_total, on_total, pointwise, tied_itself, Want}
use Rattle.std.specs.Cmp.{first_so}
use Rattle.std.specs.Cmp.Lexicographic.{as_long, lists_total}
use Rattle.std.specs.Ordering.{is_lt}
use Rattle.farm_types.specs.Names.{are_apart, AreAmong, board_cmp, board_lists, fits, IsAmong, IsLeast, least, meets, names_cmp}
use Rattle.farm_sound.proofs.Lists.{all_join, all_self, among_append, among_has, among_map, among_none}
use Rattle.farm_sound.proofs.Where.{AllByRecursion-map, all_true}

among_flat : {A B : Type 0} (f : A → List B) (x : A) (z : B) (xs : List A) → IsAmong x xs → IsAmong z (f x) → IsAmong z (flat_map f xs)
among_flat f x z [] at here = absurd at
among_flat f x z (y ∷ ys) (inl same) here = among_append z (f y) (flat_map f ys) (inl (subst (λ w. IsAmong z (f w)) same here))
among_flat f x z (y ∷ ys) (inr at) here = among_append z (f y) (flat_map f ys) (inr (among_flat f x z ys at here))

-- each list of so many of the boards is one of the lists
pub among_lists : (boards : List BoardRow) (n : ℕ) (cs : List BoardRow) → length cs ≡ n → AllByRecursion (λ c. IsAmong c boards) cs → IsAmong cs (board_lists n boards)
among_lists boards zero [] long all = inl refl
among_lists boards zero (c ∷ cs) long all = absurd (omega arith)
among_lists boards (suc n) [] long all = absurd (omega arith)
among_lists boards (suc n) (c ∷ cs) long all =
    among_flat (λ b. map (λ bs. b ∷ bs) (board_lists n boards)) c (c ∷ cs) boards all.0
    (among_map (λ bs. c ∷ bs) cs (board_lists n boards) (among_lists boards n cs (omega arith) all.1))

module _ {A : Type 0} (cmp : A → A → Ordering) (total : IsTotalOrder cmp) where
  -- the first that passes is the least that passes
  pub first_is_least : (p : A → Bool) (b c : A) (xs : List A) → IsStrictlySortedBy cmp xs → find p xs ≡ Some b → IsAmong c xs → p c ≡ true
      → is_lt (cmp c b) ≡ false
  unfolding IsStrictlySortedBy
  first_is_least p b c [] sorted found at passes = absurd at
  first_is_least p b c (x ∷ xs) sorted found at passes = grind (arith, first_is_least p b c xs sorted.1, among_has (λ y. cmp x y ≡ Less) c xs sorted.0, false≢true)

  sorted_append : (xs ys : List A) → IsStrictlySortedBy cmp xs → IsStrictlySortedBy cmp ys
      → AllByRecursion (λ x. AllByRecursion (λ y. cmp x y ≡ Less) ys) xs → IsStrictlySortedBy cmp (xs ++ ys)
  unfolding IsStrictlySortedBy
  sorted_append [] ys sx sy below = sy
  sorted_append (x ∷ xs) ys sx sy below = (all_join (λ y. cmp x y ≡ Less) xs ys sx.0 below.0, sorted_append xs ys sx.1 sy below.1)

all_flat : {A B : Type 0} (P : B → Type 0) (Q : A → Type 0) (f : A → List B) (xs : List A) → AllByRecursion Q xs
    → ((x : A) → Q x → AllByRecursion P (f x)) → AllByRecursion P (flat_map f xs)
all_flat P Q f [] all each = tt
all_flat P Q f (x ∷ xs) all each = all_join P (f x) (flat_map f xs) (each x all.0) (all_flat P Q f xs all.1 each)

board_total : IsTotalOrder board_cmp
board_total = on_total (λ (r : BoardRow). r.name) nat_list_cmp_total

-- lists that begin with one board are in the order of their rests
block_sorted : (b : BoardRow) (xs : List (List BoardRow)) → IsStrictlySortedBy names_cmp xs → IsStrictlySortedBy names_cmp (map (λ bs. b ∷ bs) xs)
unfolding IsStrictlySortedBy
block_sorted b [] sorted = tt
block_sorted b (x ∷ xs) sorted = (heads xs sorted.0, block_sorted b xs sorted.1)
  where
    heads : (ys : List (List BoardRow)) → AllByRecursion (λ y. names_cmp x y ≡ Less) ys
        → AllByRecursion (λ y. names_cmp (b ∷ x) y ≡ Less) (map (λ bs. b ∷ bs) ys)
    heads [] all = tt
    heads (y ∷ ys) all = (rw (tied_itself board_total b) all.0, heads ys all.1)

-- so are all lists that begin with boards in order, block after block
flat_sorted : (rest : List (List BoardRow)) → IsStrictlySortedBy names_cmp rest → (boards : List BoardRow) → IsStrictlySortedBy board_cmp boards
    → IsStrictlySortedBy names_cmp (flat_map (λ b. map (λ bs. b ∷ bs) rest) boards)
unfolding IsStrictlySortedBy
flat_sorted rest sorted [] bs = tt
flat_sorted rest sorted (b ∷ boards) bs =
    sorted_append names_cmp (lists_total board_total) (map (λ bs. b ∷ bs) rest) (flat_map (λ b. map (λ bs. b ∷ bs) rest) boards)
    (block_sorted b rest sorted) (flat_sorted rest sorted boards bs.1)
    (AllByRecursion-map (λ xs. Unit {0}) (λ x. AllByRecursion (λ y. names_cmp x y ≡ Less) (flat_map (λ b. map (λ bs. b ∷ bs) rest) boards)) (λ bs. b ∷ bs)
    (λ xs _. all_flat (λ y. names_cmp (b ∷ xs) y ≡ Less) (λ c. board_cmp b c ≡ Less) (λ c. map (λ bs. c ∷ bs) rest) boards bs.0
    (λ c less. AllByRecursion-map (λ cs. Unit {0}) (λ y. names_cmp (b ∷ xs) y ≡ Less) (λ bs. c ∷ bs) (λ cs _. rw less) rest (all_true rest)))
    rest (all_true rest))

-- all lists of so many boards in name order are in order
pub lists_sorted : (boards : List BoardRow) → IsStrictlySortedBy board_cmp boards → (n : ℕ) → IsStrictlySortedBy names_cmp (board_lists n boards)
unfolding IsStrictlySortedBy
lists_sorted boards sorted zero = (tt, tt)
lists_sorted boards sorted (suc n) = flat_sorted (board_lists n boards) (lists_sorted boards sorted n) boards sorted

long_as_wants : (test : BoardRow → Bool) (wants : List Want) (cs : List BoardRow) → meets test wants cs ≡ true → length cs ≡ length wants
long_as_wants test wants cs is =
    as_long fits cs wants (first_so (pointwise fits cs wants) (are_apart cs) (first_so (pointwise fits cs wants && are_apart cs) (list_all test cs) is))

-- no list that meets the wants comes before the one that is found
pub least_is_least : (boards : List BoardRow) (test : BoardRow → Bool) (wants : List Want) (bs cs : List BoardRow)
    → IsStrictlySortedBy board_cmp boards → least boards test wants ≡ Some bs → AllByRecursion (λ c. IsAmong c boards) cs → meets test wants cs ≡ true
    → is_lt (names_cmp cs bs) ≡ false
unfolding least
least_is_least boards test wants bs cs sorted found among meeting =
    first_is_least names_cmp (lists_total board_total) (meets test wants) bs cs (board_lists (length wants) boards)
    (lists_sorted boards sorted (length wants)) found
    (among_lists boards (length wants) cs (long_as_wants test wants cs meeting) among) meeting

-- where none is found, no list meets the wants
pub none_meets : (boards : List BoardRow) (test : BoardRow → Bool) (wants : List Want) (cs : List BoardRow) → least boards test wants ≡ None
    → AllByRecursion (λ c. IsAmong c boards) cs → meets test wants cs ≡ true → ⊥
unfolding least
none_meets boards test wants cs none among meeting =
    among_none (meets test wants) cs (board_lists (length wants) boards)
    (among_lists boards (length wants) cs (long_as_wants test wants cs meeting) among) meeting none

lists_among : (boards : List BoardRow) (n : ℕ) → AllByRecursion (AreAmong boards) (board_lists n boards)
lists_among boards zero = (tt, tt)
lists_among boards (suc n) =
    all_flat (AreAmong boards) (λ b. IsAmong b boards) (λ b. map (λ bs. b ∷ bs) (board_lists n boards)) boards (all_self boards)
    (λ b at. AllByRecursion-map (AreAmong boards) (AreAmong boards) (λ bs. b ∷ bs) (λ bs all. (at, all)) (board_lists n boards) (lists_among boards n))

-- what is found is the least list
pub IsLeast-least : (boards : List BoardRow) (test : BoardRow → Bool) (wants : List Want) (bs : List BoardRow) → IsStrictlySortedBy board_cmp boards
    → least boards test wants ≡ Some bs → IsLeast boards test wants bs
unfolding least
IsLeast-least boards test wants bs sorted found = record {
  among = found_has (AreAmong boards) (meets test wants) bs (board_lists (length wants) boards) (lists_among boards (length wants)) found;
  meeting = found_passes (meets test wants) bs (board_lists (length wants) boards) found;
  least = λ cs among meeting. least_is_least boards test wants bs cs sorted found among meeting;
}
