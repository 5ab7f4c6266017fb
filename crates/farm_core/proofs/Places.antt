-- Boards that are assigned, by their places.
use Rattle.std.proofs.Common.{[], ◌≡◌, ℕ, zero, suc, ◌+◌, ◌<◌, ◌++◌, List, ◌∷◌, length, set, take, get_or, Bool, Option, Some, None, refl}
use Rattle.std.proofs.Common.{sym, ap, subst, ◌∙◌, arith}
use Rattle.std.specs.Cmp.Lexicographic.{nat_list_cmp_total}
use Rattle.farm_core.proofs.Names.{AllByRecursion, BoardRow, bytes_eq, Holder, IdleBoard, IsStrictlySortedBy, length-map, recursion_from_All, same_names, State}
use Rattle.std.specs.List.{All}
use Rattle.std.specs.Option.{option_map}
use Rattle.std.specs.Prelude.{slice_get}
use Rattle.std.proofs.lemmas.List.{take_more}
use Rattle.std.proofs.lemmas.List.Elements.{filter_map-append}
use Rattle.std.proofs.lemmas.Option.{slice_get-get_or, slice_get-map}
use Rattle.farm_types.specs.Names.{board_cmp, change_where, Farm, held_board, text_cmp}
use Rattle.farm_sound.proofs.Own.{text_itself}
use Rattle.farm_table.proofs.Steps.{apart_by_key, one_changes}
use Rattle.farm_pick.specs.Least.{boards_at}
use Rattle.farm_core.specs.Following.{without_board, without_boards}
use Rattle.farm_core.specs.Serving.{assign_first, name_at, names_at}
use Rattle.farm_core.proofs.Serving.{names_of}

-- the board at a place
pub board_at : (rows : List BoardRow) (at : ℕ) → at < length rows → (b : BoardRow) × (b ≡ get_or rows at b)
board_at [] at low = absurd (omega arith)
board_at (r ∷ rows) zero low = (r, refl)
board_at (r ∷ rows) (suc at) low = board_at rows at (omega arith)

pub named : (rows : List BoardRow) (at : ℕ) (b : BoardRow) → at < length rows → b ≡ get_or rows at b → name_at rows at ≡ Some b.name
named rows at b low is = ap (option_map (λ (b : BoardRow). b.name)) (slice_get-get_or rows at b low ∙ ap Some (sym is))

-- it is the one of its name
pub changed_at : (f : BoardRow → BoardRow) (rows new : List BoardRow) (at : ℕ) (b : BoardRow) → IsStrictlySortedBy board_cmp rows → at < length rows → b ≡ get_or rows at b
    → ((d : BoardRow) → new ≡ set rows at (f (get_or rows at d))) → new ≡ change_where (λ c. bytes_eq c.name b.name) f rows
changed_at f rows new at b sorted low is made =
    made b ∙ sym (one_changes board_cmp (λ c. bytes_eq c.name b.name) f (apart_by_key (λ (c : BoardRow). c.name) text_cmp nat_list_cmp_total bytes_eq same_names b.name) rows at b sorted low
    (ap (λ (c : BoardRow). bytes_eq c.name b.name) (sym is) ∙ text_itself b.name))

-- names stay as boards are reserved
pub names_stay : (test : BoardRow → Bool) (holder : Holder) (state : State) (rows : List BoardRow) → names_of (change_where test (held_board holder state) rows) ≡ names_of rows
names_stay test holder state [] = refl
names_stay test holder state (r ∷ rows) = grind (arith, names_stay test holder state rows)

-- and with them the name at each place
pub name_same : (old new : List BoardRow) → names_of new ≡ names_of old → (at : ℕ) → name_at new at ≡ name_at old at
name_same old new same at =
    sym (slice_get-map (λ (b : BoardRow). b.name) new at) ∙ ap (λ ns. slice_get ns at) same ∙ slice_get-map (λ (b : BoardRow). b.name) old at

pub long_same : (old new : List BoardRow) → names_of new ≡ names_of old → length new ≡ length old
long_same old new same = sym (length-map new (λ (b : BoardRow). b.name)) ∙ ap length same ∙ length-map old (λ (b : BoardRow). b.name)

-- ---- the names at some places

pub names_long : (rows : List BoardRow) (places : List ℕ) → AllByRecursion (λ at. at < length rows) places → length (names_at rows places) ≡ length places
names_long rows [] all = refl
names_long rows (p ∷ places) all = let it = board_at rows p all.0 in rw (named rows p it.0 all.0 it.1) (ap suc (names_long rows places all.1))

pub name_there : (rows : List BoardRow) (places : List ℕ) (k : ℕ) (name : List ℕ) → AllByRecursion (λ at. at < length rows) places → k < length places → name_at rows (get_or places k 0) ≡ Some name
    → name ≡ get_or (names_at rows places) k name
name_there rows [] k name all low is = absurd (omega arith)
name_there rows (p ∷ places) zero name all low is = rw is refl
name_there rows (p ∷ places) (suc k) name all low is = let it = board_at rows p all.0 in rw (named rows p it.0 all.0 it.1) (name_there rows places k name all.1 (omega arith) is)

pub names_boards : (rows : List BoardRow) (places : List ℕ) → names_of (boards_at rows places) ≡ names_at rows places
names_boards rows [] = refl
names_boards rows (p ∷ places) = grind (arith, names_boards rows places)

pub names_more : (rows : List BoardRow) (places : List ℕ) (k : ℕ) (b : BoardRow) → k < length places → get_or places k 0 < length rows → b ≡ get_or rows (get_or places k 0) b
    → names_at rows (take (k + 1) places) ≡ names_at rows (take k places) ++ (b.name ∷ [])
names_more rows places k b low within is =
    ap (names_at rows) (take_more places k 0 low)
    ∙ filter_map-append (name_at rows) (take k places) (get_or places k 0 ∷ [])
    ∙ ap (λ ns. names_at rows (take k places) ++ ns) (rw (named rows (get_or places k 0) b within is) refl)

-- a reservation is given the board at the first of some places
pub assigned_first : (F : Farm) (number : ℕ) (places : List ℕ) (at : ℕ) (b : BoardRow) → at < length F.boards → b ≡ get_or F.boards at b → Some at ≡ slice_get places 0
    → assign_first F number (names_at F.boards places) ≡ assign_first F number (b.name ∷ [])
assigned_first F number [] at b low is first = cc
assigned_first F number (p ∷ places) at b low is first =
    let same : at ≡ p = cc in
    rw (named F.boards p b (subst (λ k. k < length F.boards) same low) (is ∙ ap (λ k. get_or F.boards k b) same)) refl

pub first_low : (n : ℕ) (places : List ℕ) (at : ℕ) → All (λ at. at < n) places → Some at ≡ slice_get places 0 → at < n
first_low n places at all first = by places (recursion_from_All (λ at. at < n) places all) first
  where
    by : (places : List ℕ) → AllByRecursion (λ at. at < n) places → Some at ≡ slice_get places 0 → at < n
    by [] all first = cc
    by (p ∷ places) all first = let same : at ≡ p = cc in subst (λ k. k < n) (sym same) all.0

-- the first of some places is where the one board stands that they have
pub first_at : (rows : List BoardRow) (places : List ℕ) (o : Option BoardRow) → AllByRecursion (λ at. at < length rows) places → 0 < length places → Some (boards_at rows places) ≡ option_map (λ b. b ∷ []) o
    → slice_get rows (get_or places 0 0) ≡ o
first_at rows [] o all some is = absurd (omega arith)
first_at rows (p ∷ places) None all some is = cc
first_at rows (p ∷ places) (Some b) all some is =
    let it = board_at rows p all.0 in
    let at : slice_get rows p ≡ Some it.0 = slice_get-get_or rows p it.0 all.0 ∙ ap Some (sym it.1) in
    let one : ◌≡◌ {A = Option (List BoardRow)} (Some (it.0 ∷ boards_at rows places)) (Some (b ∷ [])) = rw at at is in
    let same : it.0 ≡ b = cc in
    at ∙ ap Some same

pub first_none : (o : Option BoardRow) → ◌≡◌ {A = Option (List BoardRow)} None (option_map (λ b. b ∷ []) o) → None ≡ o
first_none None is = refl
first_none (Some b) is = cc

pub without_more : (names : List (List ℕ)) (name : List ℕ) (boards : List IdleBoard) → without_boards (names ++ (name ∷ [])) boards ≡ without_board (without_boards names boards) name
without_more [] name boards = refl
without_more (n ∷ names) name boards = without_more names name (without_board boards n)
