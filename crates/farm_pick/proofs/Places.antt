-- Boards in name order, by their places.
use Rattle.std.proofs.Common.{◌≡◌, ◌≢◌, ℕ, zero, suc, ◌<◌, ◌==◌, Bool, true, false, List, [], ◌∷◌, length, get_or, refl, sym, ap, ◌∙◌, inl, inr, subst, arith}
use Rattle.std.proofs.Common.{Option, Some, None}
use Rattle.std.specs.Prelude.{slice_get}
use Rattle.farm_pick.proofs.Names.{AllZip, among_has, BoardRow, bytes_eq, bytes_eq-Decides, cases_eq, eqb-false, is_eq, IsTotalOrder}
use Rattle.std.specs.List.Sorted.{IsStrictlySortedBy}
use Rattle.farm_pick.proofs.Names.{list_any, ne_eqb, option_map_or, or_from, or_parts, ordering_reverse, same_Some, text_itself, Want}
use Rattle.std.specs.Cmp.{tied_itself}
use Rattle.std.specs.Cmp.Lexicographic.{on_texts}
use Rattle.std.specs.declared.cmp.Ordering.TheVariants.{Less, Equal, Greater}
use Rattle.std.proofs.lemmas.Bool.{false≢true, true≢false}
use Rattle.std.proofs.lemmas.Map.Text.{is_eq-slice_cmp}
use Rattle.std.proofs.lemmas.Option.{slice_get_read, slice_get_within}
use Rattle.farm_types.specs.Names.{board_cmp, IsAmong}
use Rattle.farm_pick.specs.Choice.{is_candidate, has, candidate_at}

-- strictly, so that no name stands twice
abbrev pub AreInNameOrder : List BoardRow → Type 0
AreInNameOrder boards = IsStrictlySortedBy board_cmp boards

-- ---- elements by their places

pub among_at : {X : Type 0} (xs : List X) (i : ℕ) (x : X) → slice_get xs i ≡ Some x → IsAmong x xs
among_at [] i x e = cc
among_at (y ∷ xs) zero x e = inl (sym (same_Some y x e))
among_at (y ∷ xs) (suc i) x e = inr (among_at xs i x e)

pub place_of : {X : Type 0} (x : X) (xs : List X) → IsAmong x xs → (i : ℕ) × (slice_get xs i ≡ Some x)
place_of x [] h = absurd h
place_of x (y ∷ xs) h = elim h [ inl same ↦ (zero, ap Some (sym same)) | inr later ↦ let rest = place_of x xs later in (suc rest.0, rest.1) ]

-- ---- as many boards as places, each the board at its place

abbrev pub AreAt : List BoardRow → List ℕ → List BoardRow → Type 0
AreAt boards places bs = AllZip (λ i b. slice_get boards i ≡ Some b) places bs

-- ---- candidates

-- what passes stands there
pub some_passing : {X : Type 0} (test : X → Bool) (o : Option X) → option_map_or test o false ≡ true → (x : X) × (o ≡ Some x) × (test x ≡ true)
some_passing test None is = absurd (false≢true is)
some_passing test (Some x) is = (x, refl, is)

pub none_passing : {X : Type 0} (test : X → Bool) (o : Option X) → ((x : X) → o ≡ Some x → test x ≡ false) → option_map_or test o false ≡ false
none_passing test None none = refl
none_passing test (Some x) none = none x refl

pub candidate_board : (boards : List BoardRow) (test : BoardRow → Bool) (w : Want) (i : ℕ) → candidate_at boards test w i ≡ true → (b : BoardRow) × (slice_get boards i ≡ Some b) × (is_candidate test w b ≡ true)
candidate_board boards test w i e = some_passing (is_candidate test w) (slice_get boards i) e

pub candidate_is : (boards : List BoardRow) (test : BoardRow → Bool) (w : Want) (i : ℕ) (b : BoardRow) → i < length boards → b ≡ get_or boards i b → candidate_at boards test w i ≡ is_candidate test w b
candidate_is boards test w i b low is = ap (λ o. option_map_or (is_candidate test w) o false) (slice_get_read boards (length boards) i b refl low is)

pub candidate_within : (boards : List BoardRow) (test : BoardRow → Bool) (w : Want) (i : ℕ) → candidate_at boards test w i ≡ true → i < length boards
candidate_within boards test w i e = let b = candidate_board boards test w i e in slice_get_within boards i b.0 b.1

-- ---- names

pub board_total : IsTotalOrder board_cmp
board_total = on_texts (λ b. b.name)

pub board_cmp-self : (b : BoardRow) → board_cmp b b ≡ Equal
board_cmp-self b = tied_itself board_total b

pub board_cmp-reverse : (b c : BoardRow) → board_cmp b c ≡ Less → board_cmp c b ≡ Greater
board_cmp-reverse b c e = board_total.antisymm c b ∙ ap ordering_reverse e

pub rises : (boards : List BoardRow) → AreInNameOrder boards → (i j : ℕ) (a b : BoardRow) → slice_get boards i ≡ Some a → slice_get boards j ≡ Some b → i < j → board_cmp a b ≡ Less
unfolding IsStrictlySortedBy
rises [] s i j a b e f lt = cc
rises (x ∷ xs) s i zero a b e f lt = absurd (omega arith)
rises (x ∷ xs) s zero (suc j) a b e f lt =
    subst (λ y. board_cmp y b ≡ Less) (same_Some x a e) (among_has (λ y. board_cmp x y ≡ Less) b xs s.0 (among_at xs j b f))
rises (x ∷ xs) s (suc i) (suc j) a b e f lt = let below : i < j = omega arith in rises xs s.1 i j a b e f below

module _ (boards : List BoardRow) (ordered : AreInNameOrder boards) where
  -- boards at different places have different names
  differ : (i j : ℕ) (a b : BoardRow) → slice_get boards i ≡ Some a → slice_get boards j ≡ Some b → i ≢ j → is_eq (board_cmp a b) ≡ false
  differ i j a b e f n = grind (arith, rises boards ordered i j a b e f, rises boards ordered j i b a f e, board_cmp-reverse b a)

  pub names_differ : (i j : ℕ) (a b : BoardRow) → slice_get boards i ≡ Some a → slice_get boards j ≡ Some b → i ≢ j → bytes_eq a.name b.name ≡ false
  names_differ i j a b e f n = sym (is_eq-slice_cmp a.name b.name) ∙ differ i j a b e f n

  -- boards of one name stand at one place
  pub same_place : (i j : ℕ) (a b : BoardRow) → slice_get boards i ≡ Some a → slice_get boards j ≡ Some b → a.name ≡ b.name → i ≡ j
  same_place i j a b e f same = elim (cases_eq i j) [
    | inl is ↦ is
    | inr other ↦ absurd (true≢false (sym (ap (bytes_eq a.name) (sym same) ∙ text_itself a.name) ∙ names_differ i j a b e f other))
  ]

  -- the boards at other places have other names
  pub apart : (ps : List ℕ) (bs : List BoardRow) (p : ℕ) (b : BoardRow) → AreAt boards ps bs → slice_get boards p ≡ Some b → has ps p ≡ false → list_any (λ c. bytes_eq b.name c.name) bs ≡ false
  apart [] [] p b at e n = refl
  apart [] (c ∷ bs) p b at e n = absurd at
  apart (q ∷ ps) [] p b at e n = absurd at
  apart (q ∷ ps) (c ∷ bs) p b at e n =
      let parts = or_parts (q == p) (has ps p) n in
      or_from (bytes_eq b.name c.name) (list_any (λ d. bytes_eq b.name d.name) bs) (names_differ p q b c e at.0 (λ s. eqb-false q p parts.0 (sym s))) (apart ps bs p b at.1 e parts.1)

-- a board whose name no other has stands at no other place
pub not_among : (boards : List BoardRow) (ps : List ℕ) (bs : List BoardRow) (p : ℕ) (b : BoardRow) → AreAt boards ps bs → slice_get boards p ≡ Some b → list_any (λ c. bytes_eq b.name c.name) bs ≡ false → has ps p ≡ false
not_among boards [] [] p b at e n = refl
not_among boards [] (c ∷ bs) p b at e n = absurd at
not_among boards (q ∷ ps) [] p b at e n = absurd at
not_among boards (q ∷ ps) (c ∷ bs) p b at e n =
    let parts = or_parts (bytes_eq b.name c.name) (list_any (λ d. bytes_eq b.name d.name) bs) n in
    let other : q ≢ p = λ s.
    let one : b ≡ c = same_Some b c (sym e ∙ (ap (slice_get boards) (sym s) ∙ at.0)) in
    let same : bytes_eq b.name c.name ≡ true = (bytes_eq-Decides b.name c.name).1 (ap (λ (x : BoardRow). x.name) one) in
    true≢false (sym same ∙ parts.0) in
    or_from (q == p) (has ps p) (ne_eqb q p other) (not_among boards ps bs p b at.1 e parts.1)
