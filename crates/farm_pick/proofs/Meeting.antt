-- Lists of boards that meet wants, and choices of their places.
use Rattle.std.proofs.Common.{◌≡◌, ℕ, Bool, true, false, List, [], ◌∷◌, refl, sym, ap, ◌∙◌, inl, inr, arith}
use Rattle.std.specs.Prelude.{slice_get}
use Rattle.farm_pick.proofs.Names.{BoardRow, bytes_eq, is_lt, list_any, option_map_or, ordering_then, same_Some, Want}
use Rattle.std.specs.declared.cmp.Ordering.TheVariants.{Equal}
use Rattle.std.proofs.lemmas.Bool.{false≢true, and_parts, and_from}
use Rattle.farm_types.specs.Names.{AreAmong, board_cmp, fits, meets, names_cmp}
use Rattle.farm_pick.specs.Choice.{is_candidate, Chooses, IsNotAfter, candidate_at}
use Rattle.farm_pick.proofs.Places.{AreInNameOrder, AreAt, candidate_board, among_at, place_of, apart, not_among, rises, board_cmp-self, board_cmp-reverse}

-- ---- one board more

module _ (test : BoardRow → Bool) (w : Want) (ws : List Want) (b : BoardRow) (bs : List BoardRow) where
  pub meets_more : fits b w ≡ true → list_any (λ c. bytes_eq b.name c.name) bs ≡ false → test b ≡ true → meets test ws bs ≡ true → meets test (w ∷ ws) (b ∷ bs) ≡ true
  meets_more fit new good rest = grind arith

  pub meets_parts : meets test (w ∷ ws) (b ∷ bs) ≡ true → (fits b w ≡ true) × (list_any (λ c. bytes_eq b.name c.name) bs ≡ false) × (test b ≡ true) × (meets test ws bs ≡ true)
  meets_parts m = grind arith

-- ---- a choice of places is a list of boards that meets the wants, and the other way round

module _ (boards : List BoardRow) (test : BoardRow → Bool) where
  -- the boards at some places meet the wants
  pub record MeetAt (ws : List Want) (ps : List ℕ) (bs : List BoardRow) : Type 0 where
    pub at : AreAt boards ps bs
    pub among : AreAmong boards bs
    pub meeting : meets test ws bs ≡ true

  pub boards_from_choice : AreInNameOrder boards → (ws : List Want) (ps : List ℕ) → Chooses (candidate_at boards test) [] ws ps → (bs : List BoardRow) × MeetAt ws ps bs
  boards_from_choice ordered [] [] c = ([], record { at = tt; among = tt; meeting = refl })
  boards_from_choice ordered [] (p ∷ ps) c = absurd c
  boards_from_choice ordered (w ∷ ws) [] c = absurd c
  boards_from_choice ordered (w ∷ ws) (p ∷ ps) c =
      let here = candidate_board boards test w p c.0 in
      let b = here.0 in
      let tests = and_parts (fits b w) (test b) here.2 in
      let rest = boards_from_choice ordered ws ps c.3 in
      let new = apart boards ordered ps rest.0 p b rest.1.at here.1 c.2 in (
        b ∷ rest.0,
        record {
          at = (here.1, rest.1.at);
          among = (among_at boards p b here.1, rest.1.among);
          meeting = meets_more test w ws b rest.0 tests.0 new tests.1 rest.1.meeting;
        },
      )

  pub choice_from_boards : (ws : List Want) (bs : List BoardRow) → AreAmong boards bs → meets test ws bs ≡ true → (ps : List ℕ) × AreAt boards ps bs × Chooses (candidate_at boards test) [] ws ps
  choice_from_boards [] [] known m = ([], tt, tt)
  choice_from_boards [] (b ∷ bs) known m = absurd (false≢true m)
  choice_from_boards (w ∷ ws) [] known m = absurd (false≢true m)
  choice_from_boards (w ∷ ws) (b ∷ bs) known m =
      let parts = meets_parts test w ws b bs m in
      let rest = choice_from_boards ws bs known.1 parts.3 in
      let here = place_of b boards known.0 in
      let good : candidate_at boards test w here.0 ≡ true =
      ap (λ o. option_map_or (is_candidate test w) o false) here.1 ∙ and_from (fits b w) (test b) parts.0 parts.2 in
      let new = not_among boards rest.0 bs here.0 b rest.1 here.1 parts.1 in
      (here.0 ∷ rest.0, (here.1, rest.1), (good, refl, new, rest.2))

-- ---- the order of places is the order of names

module _ (boards : List BoardRow) (ordered : AreInNameOrder boards) where
  pub not_before : (ps qs : List ℕ) (bs cs : List BoardRow) → AreAt boards ps bs → AreAt boards qs cs → IsNotAfter ps qs → is_lt (names_cmp cs bs) ≡ false
  not_before [] qs [] [] at at' n = refl
  not_before [] qs [] (c ∷ cs) at at' n = refl
  not_before [] qs (b ∷ bs) cs at at' n = absurd at
  not_before (p ∷ ps) [] bs cs at at' n = absurd n
  not_before (p ∷ ps) (q ∷ qs) [] cs at at' n = absurd at
  not_before (p ∷ ps) (q ∷ qs) (b ∷ bs) [] at at' n = absurd at'
  not_before (p ∷ ps) (q ∷ qs) (b ∷ bs) (c ∷ cs) at at' n =
      elim n [
        | inl less ↦
            let up = rises boards ordered p q b c at.0 at'.0 less in
            ap (λ r. is_lt (ordering_then r (names_cmp cs bs))) (board_cmp-reverse b c up)
        | inr same ↦
            let one : b ≡ c = same_Some b c (sym at.0 ∙ (ap (slice_get boards) same.0 ∙ at'.0)) in
            let tie : board_cmp c b ≡ Equal = ap (λ (x : BoardRow). board_cmp c x) one ∙ board_cmp-self c in
            ap (λ r. is_lt (ordering_then r (names_cmp cs bs))) tie ∙ not_before ps qs bs cs at.1 at'.1 same.1
      ]
