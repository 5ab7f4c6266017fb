-- From short lists of places to the least list.
use Rattle.std.proofs.Common.{◌≡◌, ◌≢◌, ℕ, zero, suc, ◌<◌, ◌≤◌, Bool, true, false, List, [], ◌∷◌, ◌==◌, length, map, set, take, get_or, Bor, refl, sym, ap, ◌∙◌}
use Rattle.std.proofs.Common.{inl, inr, subst, arith, Option, Some, None}
use Rattle.std.specs.Prelude.{All, AllPairs, IfSome, IfNone, MatchOption, option_map}
use Rattle.farm_pick.proofs.Names.{AllByRecursion, AllZip, BoardRow, eqb-false, IsTotalOrder, or_parts, Want}
use Rattle.std.proofs.lemmas.Bool.{false≢true}
use Rattle.std.proofs.lemmas.List.{take_all}
use Rattle.std.proofs.lemmas.List.Elements.{All-nil, All-cons}
use Rattle.std.proofs.lemmas.List.Kept.{AllPairs-cons}
use Rattle.farm_types.specs.Names.{AreAmong, board_cmp, IsLeast, least, meets, names_cmp}
use Rattle.farm_sound.proofs.Least.{IsLeast-least, none_meets}
use Rattle.farm_pick.specs.Choice.{has, Ascends, Chooses, IsLeastChoice, IsShortlist, candidate_at}
use Rattle.farm_pick.specs.Least.{boards_at}
use Rattle.farm_pick.proofs.Choices.{Found, from_lists, into_lists, length-chosen, NotAfter-trans}
use Rattle.farm_pick.proofs.Ordered.{tied_same}
use Rattle.farm_pick.proofs.Places.{AreInNameOrder, AreAt, candidate_within, board_total}
use Rattle.farm_pick.proofs.Meeting.{boards_from_choice, choice_from_boards, not_before}
use Rattle.std.specs.Cmp.Lexicographic.{lists_total}
use Rattle.std.specs.declared.cmp.Ordering.TheVariants.{Equal}

-- ---- there is one least list at most

pub names_total : IsTotalOrder names_cmp
names_total = lists_total board_total

module _ (boards : List BoardRow) (ordered : AreInNameOrder boards) where
  same_boards : (bs cs : List BoardRow) → AreAmong boards bs → AreAmong boards cs → names_cmp bs cs ≡ Equal → bs ≡ cs
  same_boards [] [] m n e = refl
  same_boards [] (c ∷ cs) m n e = cc
  same_boards (b ∷ bs) [] m n e = cc
  same_boards (b ∷ bs) (c ∷ cs) m n e = grind (arith, tied_same board_cmp board_total b c boards ordered m.0 n.0, same_boards bs cs m.1 n.1)

  pub one_least : (test : BoardRow → Bool) (ws : List Want) (bs cs : List BoardRow) → IsLeast boards test ws bs → IsLeast boards test ws cs → bs ≡ cs
  one_least test ws bs cs l k = same_boards bs cs l.among k.among
      (grind (arith, names_total.antisymm cs bs, l.least cs k.among k.meeting, k.least bs l.among l.meeting))

-- ---- the answer of the definitions' search

module _ (boards : List BoardRow) (test : BoardRow → Bool) (ws : List Want) (ordered : AreInNameOrder boards) where
  abbrev pub IsAnswer : Option (List BoardRow) → Type 0
  IsAnswer r = MatchOption r ((bs : List BoardRow) → AreAmong boards bs → meets test ws bs ≡ true → ⊥) (IsLeast boards test ws)

  answered : (r : Option (List BoardRow)) → least boards test ws ≡ r → IsAnswer r
  answered None is = λ bs known meeting. none_meets boards test ws bs is known meeting
  answered (Some bs) is = IsLeast-least boards test ws bs ordered is

  pub least_answers : IsAnswer (least boards test ws)
  least_answers = answered (least boards test ws) refl

-- ---- short lists

-- a short list for each want, whatever a want is
abbrev pub AreShortlists : {W : Type 0} → (W → ℕ → Bool) → ℕ → List W → List (List ℕ) → Type 0
AreShortlists serves limit ws lists = AllZip (λ w l. IsShortlist (serves w) limit l) ws lists

module _ {W : Type 0} (serves : W → ℕ → Bool) where
  pub all_ascend : (limit : ℕ) (ws : List W) (lists : List (List ℕ)) → AreShortlists serves limit ws lists → AllByRecursion Ascends lists
  all_ascend limit [] [] z = tt
  all_ascend limit [] (l ∷ ls) z = absurd z
  all_ascend limit (w ∷ ws) [] z = absurd z
  all_ascend limit (w ∷ ws) (l ∷ ls) z = (z.0.ascends, all_ascend limit ws ls z.1)

  -- the short lists of all wants, of the first places of a table
  pub shortlists_all : (i : ℕ) (ws : List W) (lists : List (List ℕ)) → i ≡ length ws → AreShortlists serves (length ws) (take i ws) (take i lists) → AreShortlists serves (length ws) ws (take (length ws) lists)
  shortlists_all i ws lists e z =
      let here = rw e at z in
      rw (take_all (length ws) ws (omega arith)) at here

  -- one short list more, made with the same limit
  pub one_more : (limit i : ℕ) (ws : List W) (lists : List (List ℕ)) (w : W) (most : ℕ) (l : List ℕ) → i < length ws → i < length lists → w ≡ get_or ws i w → IsShortlist (serves w) most l → most ≡ limit → AreShortlists serves limit (take i ws) (take i lists) → AreShortlists serves limit (take (suc i) ws) (take (suc i) (set lists i l))
  one_more limit i [] lists w most l lt room is s same z = absurd (omega arith)
  one_more limit i (v ∷ ws) [] w most l lt room is s same z = absurd (omega arith)
  one_more limit zero (v ∷ ws) (k ∷ lists) w most l lt room is s same z =
      (subst (λ u. IsShortlist (serves u) limit l) is (subst (λ m. IsShortlist (serves w) m l) same s), tt)
  one_more limit (suc i) (v ∷ ws) (k ∷ lists) w most l lt room is s same z =
      let below : i < length ws = omega arith in
      let within : i < length lists = omega arith in
      (z.0, one_more limit i ws lists w most l below within is s same z.1)

  -- a want that nothing serves
  served_at : (used : List ℕ) (ws : List W) (ps : List ℕ) (i : ℕ) (d : W) → i < length ws → Chooses serves used ws ps → (p : ℕ) × (serves (get_or ws i d) p ≡ true)
  served_at used [] ps i d lt c = absurd (omega arith)
  served_at used (w ∷ ws) [] i d lt c = absurd c
  served_at used (w ∷ ws) (p ∷ ps) zero d lt c = (p, c.0)
  served_at used (w ∷ ws) (p ∷ ps) (suc i) d lt c = let below : i < length ws = omega arith in served_at used ws ps i d below c.3

  pub none_serves : (limit : ℕ) (ws : List W) (i : ℕ) (w : W) (l : List ℕ) → IsShortlist (serves w) limit l → length l ≡ 0 → 1 ≤ limit → i < length ws → w ≡ get_or ws i w → (ps : List ℕ) → Chooses serves [] ws ps → ⊥
  none_serves limit ws i w [] s e one lt is ps c =
      let p = served_at [] ws ps i w lt c in
      elim (s.first p.0 (subst (λ v. serves v p.0 ≡ true) (sym is) p.1)) [
        | inl h ↦ false≢true h
        | inr h ↦ let full = h.0 in absurd (omega arith)
      ]
  none_serves limit ws i w (x ∷ l) s e one lt is ps c = absurd (omega arith)

-- ---- the least choice out of the short lists

module _ {W : Type 0} (serves : W → ℕ → Bool) (ws : List W) (lists : List (List ℕ)) (short : AreShortlists serves (length ws) ws lists) where
  pub found_from_lists : (r : List ℕ) → Found [] lists r → IsLeastChoice serves [] ws r
  found_from_lists r found =
      let ps = found.0 in
      subst (λ qs. IsLeastChoice serves [] ws qs) (sym found.1) (record {
        chooses = from_lists serves (length ws) ws lists [] ps short found.2.chooses;
        least = λ qs c.
            let listed = into_lists serves (length ws) ws lists [] qs short (omega arith) c in
            NotAfter-trans ps listed.0 qs (found.2.least listed.0 listed.1) listed.2;
      })

  pub none_from_lists : ((ps : List ℕ) → Chooses has [] lists ps → ⊥) → (ps : List ℕ) → Chooses serves [] ws ps → ⊥
  none_from_lists none ps c =
      let listed = into_lists serves (length ws) ws lists [] ps short (omega arith) c in
      none listed.0 listed.1

-- ---- all pairs of a list, by its head

all_pairs_nil : {X : Type 0} (R : X → X → Type 0) → AllPairs R []
all_pairs_nil R i j d lt within = absurd (omega arith)

not_here : (p : ℕ) (ps : List ℕ) → has ps p ≡ false → All (λ q. p ≢ q) ps
not_here p [] n = All-nil (λ q. p ≢ q)
not_here p (q ∷ ps) n =
    let parts = or_parts (q == p) (has ps p) n in
    All-cons (λ r. p ≢ r) q ps (λ same. eqb-false q p parts.0 (sym same)) (not_here p ps parts.1)

-- ---- places of boards

boards_at-is : (boards : List BoardRow) (ps : List ℕ) (bs : List BoardRow) → AreAt boards ps bs → boards_at boards ps ≡ bs
boards_at-is boards [] [] at = refl
boards_at-is boards [] (b ∷ bs) at = absurd at
boards_at-is boards (p ∷ ps) [] at = absurd at
boards_at-is boards (p ∷ ps) (b ∷ bs) at = rw at.0 (ap (λ (xs : List BoardRow). b ∷ xs) (boards_at-is boards ps bs at.1))

-- whether the board at a place is a candidate for a want that is seen through a function, as a reference's value
abbrev pub candidate_by : {V : Type 0} → (V → Want) → List BoardRow → (BoardRow → Bool) → V → ℕ → Bool
candidate_by f boards test v i = candidate_at boards test (f v) i

-- what a lent want is
abbrev pub lent : Bor Want → Want
lent w = w.now

module _ {V : Type 0} (f : V → Want) (boards : List BoardRow) (test : BoardRow → Bool) where
  seen : (used : List ℕ) (vs : List V) (ps : List ℕ) → Chooses (candidate_by f boards test) used vs ps → Chooses (candidate_at boards test) used (map f vs) ps
  seen used [] [] c = tt
  seen used [] (p ∷ ps) c = absurd c
  seen used (v ∷ vs) [] c = absurd c
  seen used (v ∷ vs) (p ∷ ps) c = (c.0, c.1, c.2, seen used vs ps c.3)

  unseen : (used : List ℕ) (vs : List V) (ps : List ℕ) → Chooses (candidate_at boards test) used (map f vs) ps → Chooses (candidate_by f boards test) used vs ps
  unseen used [] [] c = tt
  unseen used [] (p ∷ ps) c = absurd c
  unseen used (v ∷ vs) [] c = absurd c
  unseen used (v ∷ vs) (p ∷ ps) c = (c.0, c.1, c.2, unseen used vs ps c.3)

  all_within : (used : List ℕ) (vs : List V) (ps : List ℕ) → Chooses (candidate_by f boards test) used vs ps → All (λ i. i < length boards) ps
  all_within used [] [] c = All-nil (λ i. i < length boards)
  all_within used [] (p ∷ ps) c = absurd c
  all_within used (v ∷ vs) [] c = absurd c
  all_within used (v ∷ vs) (p ∷ ps) c =
      All-cons (λ i. i < length boards) p ps (candidate_within boards test (f v) p c.0) (all_within used vs ps c.3)

  all_different : (used : List ℕ) (vs : List V) (ps : List ℕ) → Chooses (candidate_by f boards test) used vs ps → AllPairs (λ i j. i ≢ j) ps
  all_different used [] [] c = all_pairs_nil (λ i j. i ≢ j)
  all_different used [] (p ∷ ps) c = absurd c
  all_different used (v ∷ vs) [] c = absurd c
  all_different used (v ∷ vs) (p ∷ ps) c =
      AllPairs-cons (λ i j. i ≢ j) p ps (not_here p ps c.2) (all_different used vs ps c.3)

  -- ---- the answer of the search

  module _ (ordered : AreInNameOrder boards) (vs : List V) where
    least_from_choice : (ps : List ℕ) → IsLeastChoice (candidate_by f boards test) [] vs ps → (bs : List BoardRow) × AreAt boards ps bs × IsLeast boards test (map f vs) bs
    least_from_choice ps choice =
        let made = boards_from_choice boards test ordered (map f vs) ps (seen [] vs ps choice.chooses) in (
          made.0,
          made.1.at,
          record {
            among = made.1.among;
            meeting = made.1.meeting;
            least = λ cs known m.
                let other = choice_from_boards boards test (map f vs) cs known m in
                not_before boards ordered ps other.0 made.0 cs made.1.at other.1 (choice.least other.0 (unseen [] vs other.0 other.2));
          },
        )

    same_answer : (r : Option (List ℕ)) (o : Option (List BoardRow)) → IfSome r (λ ps. IsLeastChoice (candidate_by f boards test) [] vs ps) → IfNone r ((ps : List ℕ) → Chooses (candidate_by f boards test) [] vs ps → ⊥) → IsAnswer boards test (map f vs) ordered o → option_map (boards_at boards) r ≡ o
    same_answer None None found none a = refl
    same_answer None (Some cs) found none a =
        let other = choice_from_boards boards test (map f vs) cs a.among a.meeting in
        absurd (none other.0 (unseen [] vs other.0 other.2))
    same_answer (Some ps) None found none a = let made = least_from_choice ps found in absurd (a made.0 made.2.among made.2.meeting)
    same_answer (Some ps) (Some cs) found none a =
        let made = least_from_choice ps found in
        ap (λ (bs : List BoardRow). Some bs) (boards_at-is boards ps made.0 made.1 ∙ one_least boards ordered test (map f vs) made.0 cs made.2 a)

    pub is_least : (r : Option (List ℕ)) → IfSome r (λ ps. IsLeastChoice (candidate_by f boards test) [] vs ps) → IfNone r ((ps : List ℕ) → Chooses (candidate_by f boards test) [] vs ps → ⊥) → option_map (boards_at boards) r ≡ least boards test (map f vs)
    is_least r found none = same_answer r (least boards test (map f vs)) found none (least_answers boards test (map f vs) ordered)

    -- all that is said of the places that are found
    pub record IsFound (r : Option (List ℕ)) : Type 0 where
      pub least : option_map (boards_at boards) r ≡ least boards test (map f vs)
      pub len : IfSome r (λ ps. length ps ≡ length vs)
      pub within : IfSome r (λ ps. All (λ i. i < length boards) ps)
      pub different : IfSome r (λ ps. AllPairs (λ i j. i ≢ j) ps)

    pub is_found : (lists : List (List ℕ)) → AreShortlists (candidate_by f boards test) (length vs) vs lists → (r : Option (List ℕ))
        → IfSome r (Found [] lists) → IfNone r ((ps : List ℕ) → Chooses has [] lists ps → ⊥) → IsFound r
    is_found lists short None found none = record {
      least = is_least None tt (none_from_lists (candidate_by f boards test) vs lists short none);
      len = tt;
      within = tt;
      different = tt;
    }
    is_found lists short (Some ps) found none =
        let choice = found_from_lists (candidate_by f boards test) vs lists short ps found in
        record {
          least = is_least (Some ps) choice tt;
          len = length-chosen (candidate_by f boards test) [] vs ps choice.chooses;
          within = all_within [] vs ps choice.chooses;
          different = all_different [] vs ps choice.chooses;
        }
