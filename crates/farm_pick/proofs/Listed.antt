-- Free boards by their rows, and the short list that they give.
use Rattle.std.proofs.Common.{◌≡◌, ◌∙◌, ◌&&◌, ◌||◌, ◌==◌, ◌<◌, ◌≤◌, ◌+◌, ◌-◌, ℕ, zero, suc, List, [], ◌∷◌, ◌++◌, length, map, drop, get_or, filter, Bool, true}
use Rattle.std.proofs.Common.{false, cond, Some, None, inl, inr, refl, sym, ap, arith, add-one, drop-cons}
use mathlib.Core.Bool.{true≢false}
use Rattle.std.specs.Prelude.{slice_get, unwrap_or}
use Rattle.farm_pick.proofs.Names.{AllByRecursion, AllByRecursion-weaker, among_has, and-true, BoardRow, both, bytes_eq, bytes_eq-Decides, false_from_ne_true}
use Rattle.farm_pick.proofs.Names.{find, found_passes, option_map_or, same_Some, text_itself, Want}
use Rattle.std.specs.List.Sorted.{IsStrictlySortedBy}
use Rattle.std.proofs.lemmas.Bool.{and_left, and_right, cases_lt}
use Rattle.std.proofs.lemmas.List.{drop-drop, drop_all}
use Rattle.std.proofs.lemmas.Option.{slice_get-get_or, slice_get_read}
use Rattle.farm_types.specs.Names.{board_cmp, fits}
use Rattle.farm_sound.proofs.Lists.{all_fail}
use Rattle.farm_pick.specs.Choice.{IsShortlist, candidate_at, is_named, named_at}
use Rattle.farm_pick.specs.Index.{IsIdle, kind_at, shown_idle}
use Rattle.farm_pick.specs.Queued.{IdleBoard, idle_board}
use Rattle.farm_pick.specs.declared.idle.IdleRow.{IdleRow}
use Rattle.farm_pick.proofs.Choices.{IsShortlistBelow, shortlist_full, shortlist_past, shortlist_whole, shortlist_with}
use Rattle.farm_pick.proofs.Places.{among_at, none_passing, same_place, some_passing}

-- ---- the board of a name

board_is : {X : Type 0} (xs : List X) (p : ℕ) → p < length xs → (x : X) → x ≡ get_or xs p x → slice_get xs p ≡ Some x
board_is xs p low x is = slice_get_read xs (length xs) p x refl low is

-- the board at a place, and its name
its_name : (boards : List BoardRow) (name : List ℕ) (p : ℕ) → p < length boards → is_named boards name p ≡ true → (b : BoardRow) → b ≡ get_or boards p b
    → bytes_eq b.name name ≡ true
its_name boards name p low named b is = sym (ap (λ o. option_map_or (λ (c : BoardRow). bytes_eq c.name name) o false) (board_is boards p low b is)) ∙ named

pub named_near : (boards : List BoardRow) (name : List ℕ) (p : ℕ) → p < length boards → (b : BoardRow) → b ≡ get_or boards p b → bytes_eq b.name name ≡ true
    → is_named boards name p ≡ true
named_near boards name p low b is same = ap (λ o. option_map_or (λ (c : BoardRow). bytes_eq c.name name) o false) (board_is boards p low b is) ∙ same

-- the board that a search finds
pub named_found : (boards : List BoardRow) (name : List ℕ) (p : ℕ) → p < length boards → ((d : BoardRow) → find (λ (c : BoardRow). bytes_eq c.name name) boards ≡ Some (get_or boards p d))
    → is_named boards name p ≡ true
named_found [] name p low found = absurd (omega arith)
named_found (b ∷ boards) name p low found =
    ap (λ o. option_map_or (λ (c : BoardRow). bytes_eq c.name name) o false) (slice_get-get_or (b ∷ boards) p b low)
    ∙ found_passes (λ (c : BoardRow). bytes_eq c.name name) (get_or (b ∷ boards) p b) (b ∷ boards) (found b)

module _ (boards : List BoardRow) (sorted : IsStrictlySortedBy board_cmp boards) (name : List ℕ) (want : Want) where
  abbrev has_name : BoardRow → Bool
  has_name b = bytes_eq b.name name

  -- the board that is found, if it fits
  pub named_here : (p : ℕ) → p < length boards → is_named boards name p ≡ true → (b : BoardRow) → b ≡ get_or boards p b
      → fits b want ≡ true → named_at boards name want p ≡ true
  named_here p low named b is fit =
      ap (λ o. option_map_or (λ b. has_name b && fits b want) o false) (board_is boards p low b is)
      ∙ ap (λ v. v && fits b want) (its_name boards name p low named b is) ∙ fit

  pub none_fits : (p : ℕ) → p < length boards → is_named boards name p ≡ true → (b : BoardRow) → b ≡ get_or boards p b
      → fits b want ≡ false → (q : ℕ) → named_at boards name want q ≡ false
  none_fits p low named b is unfit q = none_passing (λ c. has_name c && fits c want) (slice_get boards q) (λ c at. false_from_ne_true (has_name c && fits c want) (λ two.
      let parts = both (has_name c) (fits c want) two in
      let names : b.name ≡ c.name = (bytes_eq-Decides b.name name).0 (its_name boards name p low named b is) ∙ sym ((bytes_eq-Decides c.name name).0 parts.0) in
      let here = board_is boards p low b is in
      let same = same_Some b c (sym here ∙ ap (slice_get boards) (same_place boards sorted p q b c here at names) ∙ at) in
      true≢false (sym parts.1 ∙ ap (λ (x : BoardRow). fits x want) (sym same) ∙ unfit)))

  pub none_named : find has_name boards ≡ None → (q : ℕ) → named_at boards name want q ≡ false
  none_named none q = none_passing (λ c. has_name c && fits c want) (slice_get boards q) (λ c at.
      and_left (has_name c) (fits c want) (among_has (λ c. has_name c ≡ false) c boards (all_fail has_name boards none) (among_at boards q c at)))

-- ---- the next free board

module _ (free : BoardRow → Bool) where
  -- of the boards from a place on the first that is free
  record IsNext (x : IdleBoard) (xs : List IdleBoard) (bs : List BoardRow) : Type 0 where
    at : ℕ
    board : BoardRow
    here : slice_get bs at ≡ Some board
    passes : free board ≡ true
    shows : idle_board board ≡ x
    before : (m : ℕ) (c : BoardRow) → m < at → slice_get bs m ≡ Some c → free c ≡ false
    rest : xs ≡ map idle_board (filter free (drop (suc at) bs))

  next_free : (x : IdleBoard) (xs : List IdleBoard) (bs : List BoardRow) → x ∷ xs ≡ map idle_board (filter free bs) → IsNext x xs bs
  next_free x xs [] is = cc
  next_free x xs (c ∷ bs) is = by (free c) refl is (λ more. next_free x xs bs more)
    where
      by : (v : Bool) → free c ≡ v → x ∷ xs ≡ map idle_board (cond v (c ∷ filter free bs) (filter free bs)) → (x ∷ xs ≡ map idle_board (filter free bs) → IsNext x xs bs)
          → IsNext x xs (c ∷ bs)
      by true has here more =
          let first : x ≡ idle_board c = cc in
          let others : xs ≡ map idle_board (filter free bs) = cc in
          record { at = 0; board = c; here = refl; passes = has; shows = sym first; before = λ m d less at. absurd (omega arith); rest = others }
      by false has here more =
          let next = more here in
          record {
            at = suc next.at;
            board = next.board;
            here = next.here;
            passes = next.passes;
            shows = next.shows;
            before = λ m d less at. earlier m d less at;
            rest = next.rest;
          }
        where
          earlier : (m : ℕ) (d : BoardRow) → m < suc (more here).at → slice_get (c ∷ bs) m ≡ Some d → free d ≡ false
          earlier zero d less at = ap free (sym (same_Some c d at)) ∙ has
          earlier (suc m) d less at = (more here).before m d (omega arith) at

  none_free : (bs : List BoardRow) → [] ≡ map idle_board (filter free bs) → (m : ℕ) (c : BoardRow) → slice_get bs m ≡ Some c → free c ≡ false
  none_free [] is m c at = cc
  none_free (b ∷ bs) is zero c at = grind (arith, same_Some b c at)
  none_free (b ∷ bs) is (suc m) c at = grind (arith, λ (less : [] ≡ map idle_board (filter free bs)). none_free bs less m c at)

slice_get-drop : {X : Type 0} (xs : List X) (n m : ℕ) → slice_get (drop n xs) m ≡ slice_get xs (n + m)
slice_get-drop xs zero m = let none : m ≡ 0 + m = omega arith in ap (slice_get xs) none
slice_get-drop [] (suc n) m = refl
slice_get-drop (x ∷ xs) (suc n) m =
    let up : suc (n + m) ≡ suc n + m = omega arith in
    slice_get-drop xs n m ∙ ap (slice_get (x ∷ xs)) up

-- ---- the short list

module _ (kinds : List (List ℕ)) (rows : List IdleRow) (boards : List BoardRow) (free : BoardRow → Bool) (want : Want) (limit : ℕ) where
  abbrev test : ℕ → Bool
  test = candidate_at boards free want

  -- after k rows: the short list of the places below one, from which on the other rows' boards stand
  pub record IsListed (k : ℕ) (xs : List ℕ) : Type 0 where
    pub at : ℕ
    pub part : IsShortlistBelow test limit at xs
    pub rest : map (shown_idle kinds) (drop k rows) ≡ map idle_board (filter free (drop at boards))

  -- a short list reaches as far as no place passes
  further : (i j : ℕ) (xs : List ℕ) → i ≤ j → ((x : ℕ) → i ≤ x → x < j → test x ≡ false) → IsShortlistBelow test limit i xs → IsShortlistBelow test limit j xs
  further i j xs le none part = record {
    short = part.short;
    ascends = part.ascends;
    pass = part.pass;
    below = AllByRecursion-weaker (λ x less. omega arith) xs part.below;
    first = λ x less passes. elim (cases_lt x i) [
      | inl early ↦ part.first x early passes
      | inr late ↦ absurd (true≢false (sym passes ∙ none x late less))
    ];
  }

  module _ (k : ℕ) (xs : List ℕ) (listed : IsListed k xs) (low : k < length rows) (row : IdleRow) (is : row ≡ get_or rows k row) where
    abbrev next : IsNext free (shown_idle kinds row) (map (shown_idle kinds) (drop (suc k) rows)) (drop listed.at boards)
    next = next_free free (shown_idle kinds row) (map (shown_idle kinds) (drop (suc k) rows)) (drop listed.at boards)
        (sym (ap (map (shown_idle kinds)) (drop-cons rows k row low ∙ ap (λ r. r ∷ drop (suc k) rows) (sym is))) ∙ listed.rest)

    abbrev place : ℕ
    place = listed.at + next.at

    board_here : slice_get boards place ≡ Some next.board
    board_here = sym (slice_get-drop boards listed.at next.at) ∙ next.here

    named : next.board.name ≡ row.name
    named = ap (λ (b : IdleBoard). b.name) next.shows

    of_kind : next.board.kind ≡ unwrap_or (kind_at kinds row.queue) []
    of_kind = ap (λ (b : IdleBoard). b.kind) next.shows

    name_is : bytes_eq next.board.name row.name ≡ true
    name_is = ap (bytes_eq next.board.name) (sym named) ∙ text_itself next.board.name

    test_is : test place ≡ fits next.board want
    test_is = rw (board_here, next.passes) (and-true (fits next.board want))

    up_to : IsShortlistBelow test limit place xs
    up_to = further listed.at place xs (omega arith) (λ x late less. none_passing (λ c. fits c want && free c) (slice_get boards x) (λ c at. and_right (fits c want) (free c) (none x late less c at))) listed.part
      where
        none : (x : ℕ) → listed.at ≤ x → x < place → (c : BoardRow) → slice_get boards x ≡ Some c → free c ≡ false
        none x late less c at =
            let one : listed.at + (x - listed.at) ≡ x = omega arith in
            next.before (x - listed.at) c (omega arith) (slice_get-drop boards listed.at (x - listed.at) ∙ ap (slice_get boards) one ∙ at)

    others : map (shown_idle kinds) (drop (k + 1) rows) ≡ map idle_board (filter free (drop (place + 1) boards))
    others =
        let one : listed.at + suc next.at ≡ place + 1 = omega arith in
        rw add-one (next.rest ∙ ap (λ bs. map idle_board (filter free bs)) (drop-drop (suc next.at) listed.at boards ∙ ap (λ n. drop n boards) one))

    -- a row whose board doesn't fit, or is of another type
    module _ (idle : AllByRecursion (IsIdle kinds) rows) (queue : ℕ)
        (asks : (q : ℕ) → 1 ≤ q → q ≤ length kinds
        → ((queue == 0) || (q == queue)) ≡ option_map_or (λ k. bytes_eq (unwrap_or (kind_at kinds q) []) k) want.kind true)
        (none : ((queue == 0) || (row.queue == queue)) ≡ true → (p : ℕ) → named_at boards row.name want p ≡ false) where
      asked : fits next.board want ≡ true → ((queue == 0) || (row.queue == queue)) ≡ true
      asked fit =
          let mine = among_has (IsIdle kinds) row rows idle (among_at rows k row (board_is rows k low row is)) in
          asks row.queue mine.low mine.high ∙ ap (λ (of : List ℕ). option_map_or (λ k. bytes_eq of k) want.kind true) (sym of_kind)
          ∙ (both (option_map_or (λ k. bytes_eq next.board.kind k) want.kind true) _ fit).0

      pub listed_past : IsListed (k + 1) xs
      listed_past = record {
        at = place + 1;
        part = shortlist_past test limit place xs up_to place (test_is ∙ false_from_ne_true (fits next.board want) (λ fit.
            true≢false (sym (rw (board_here, name_is, fit) refl) ∙ none (asked fit) place))) refl;
        rest = others;
      }

    module _ (sorted : IsStrictlySortedBy board_cmp boards) (p : ℕ) (here : named_at boards row.name want p ≡ true) where
      b : (b : BoardRow) × (slice_get boards p ≡ Some b) × ((bytes_eq b.name row.name && fits b want) ≡ true)
      b = some_passing (λ (b : BoardRow). bytes_eq b.name row.name && fits b want) (slice_get boards p) here

      parts : (bytes_eq b.0.name row.name ≡ true) × (fits b.0 want ≡ true)
      parts = both (bytes_eq b.0.name row.name) (fits b.0 want) b.2

      one_place : p ≡ place
      one_place = same_place boards sorted p place b.0 next.board b.1 board_here ((bytes_eq-Decides b.0.name row.name).0 parts.0 ∙ sym named)

      passes_here : test p ≡ true
      passes_here =
          let same : b.0 ≡ next.board = same_Some b.0 next.board (sym b.1 ∙ ap (slice_get boards) one_place ∙ board_here) in
          ap test one_place ∙ test_is ∙ ap (λ (c : BoardRow). fits c want) (sym same) ∙ parts.1

      pub listed_with : length xs < limit → IsListed (k + 1) (xs ++ p ∷ [])
      listed_with room = record { at = place + 1; part = shortlist_with test limit place xs up_to p passes_here one_place room; rest = others }

  pub listed_full : (k : ℕ) (xs : List ℕ) → IsListed k xs → limit ≤ length xs → IsShortlist test limit xs
  listed_full k xs listed full = shortlist_full test limit listed.at xs listed.part full

  pub listed_whole : (k : ℕ) (xs : List ℕ) → IsListed k xs → length rows ≤ k → IsShortlist test limit xs
  listed_whole k xs listed high = shortlist_whole test limit listed.at xs listed.part (λ x passes. elim (cases_lt x listed.at) [
    | inl less ↦ less
    | inr late ↦ absurd (true≢false (sym passes ∙ none_passing (λ c. fits c want && free c) (slice_get boards x) (λ c at. and_right (fits c want) (free c) (none x late c at))))
  ])
    where
      none : (x : ℕ) → listed.at ≤ x → (c : BoardRow) → slice_get boards x ≡ Some c → free c ≡ false
      none x late c at =
          let one : listed.at + (x - listed.at) ≡ x = omega arith in
          none_free free (drop listed.at boards) (sym (ap (map (shown_idle kinds)) (drop_all k rows high)) ∙ listed.rest) (x - listed.at) c
          (slice_get-drop boards listed.at (x - listed.at) ∙ ap (slice_get boards) one ∙ at)
