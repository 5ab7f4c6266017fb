-- A claim that no free boards meet stays so while others are served: free boards only become fewer.
use native.Mathlib.Omega.{arith}
use Rattle.std.proofs.Common.{[], ◌&&◌, ◌∷◌, ◌≡◌, List, None, Option, Some, false, inl, inr, refl, subst, sym, true, ℕ}
use Rattle.farm_sound.proofs.Names.{AllByRecursion-weaker, BoardRow, bytes_eq, Farm, fold, Holder, JobRow, JobState, list_all}
use Rattle.std.specs.List.Sorted.{IsStrictlySortedBy}
use Rattle.farm_sound.proofs.Names.{members, pointwise, State, TypeRow, Want, zip}
use Rattle.farm_types.specs.Names.{are_apart, board_cmp, change_where, Claimed, fits, give, give_member, give_res, held_board, is_free, is_nobody}
use Rattle.farm_types.specs.Names.{IsAmong, least}
use Rattle.farm_sound.proofs.Least.{IsLeast-least, none_meets}
use Rattle.farm_sound.proofs.Lists.{all_tested}
use Rattle.farm_sound.proofs.Tests.{both}
use Rattle.farm_sound.proofs.Where.{AllByRecursion-both}

-- no list of free boards meets the claim
abbrev pub IsUnmet : Farm → List Want → Type 0
IsUnmet F wants = least F.boards (is_free F.types) wants ≡ None

-- each free board of the later list is one of the earlier list
abbrev pub Shrinks : List TypeRow → List BoardRow → List BoardRow → Type 0
Shrinks types old new = (b : BoardRow) → IsAmong b new → is_free types b ≡ true → IsAmong b old

pub unmet_shrinks : (types : List TypeRow) (old new : List BoardRow) (wants : List Want) → IsStrictlySortedBy board_cmp new → Shrinks types old new
    → least old (is_free types) wants ≡ None → least new (is_free types) wants ≡ None
unmet_shrinks types old new wants sorted shrinks none = by (least new (is_free types) wants) refl
  where
    by : (o : Option (List BoardRow)) → least new (is_free types) wants ≡ o → o ≡ None
    by None is = refl
    by (Some bs) is =
        let best = IsLeast-least new (is_free types) wants bs sorted is in
        let free = all_tested (is_free types) bs (both (pointwise fits bs wants && are_apart bs) (list_all (is_free types) bs) best.meeting).1 in
        absurd (none_meets old (is_free types) wants bs none
        (AllByRecursion-weaker (λ b two. shrinks b two.0 two.1) bs
        (AllByRecursion-both (λ b. IsAmong b new) (λ b. is_free types b ≡ true) bs best.among free)) best.meeting)

-- a board is given
given_shrinks : (types : List TypeRow) (h : Holder) (name : List ℕ) → is_nobody h ≡ false → (bs : List BoardRow)
    → Shrinks types bs (change_where (λ c. bytes_eq c.name name) (held_board h State.Reserved) bs)
given_shrinks types h name taken [] b at free = at
given_shrinks types h name taken (c ∷ bs) b (inr at) free = inr (given_shrinks types h name taken bs b at free)
given_shrinks types h name taken (c ∷ bs) b (inl same) free = grind arith

pub fold_shrinks : (state : JobState) (ps : List (JobRow × BoardRow)) (F : Farm)
    → ((fold (give_member state) F ps).types ≡ F.types) × Shrinks F.types F.boards (fold (give_member state) F ps).boards
fold_shrinks state [] F = (refl, λ b at free. at)
fold_shrinks state (p ∷ ps) F =
    let rest = fold_shrinks state ps (give_member state F (p.0, p.1)) in
    (rest.0, λ b at free. given_shrinks F.types (Holder.Job p.0.number) p.1.name refl F.boards b (rest.1 b at free) free)

res_shrinks : (F : Farm) (n : ℕ) (bs : List BoardRow) (t : ℕ) → ((give_res F n bs t).types ≡ F.types) × Shrinks F.types F.boards (give_res F n bs t).boards
res_shrinks F n [] t = (refl, λ b at free. at)
res_shrinks F n (b ∷ bs) t = (refl, given_shrinks F.types (Holder.Res n) b.name refl F.boards)

pub give_shrinks : (F : Farm) (c : Claimed) (bs : List BoardRow) (t : ℕ) → ((give F c bs t).types ≡ F.types) × Shrinks F.types F.boards (give F c bs t).boards
give_shrinks F c bs t = grind (arith, res_shrinks F c.number bs t, fold_shrinks JobState.Scheduled (zip (members F c.number) bs) F)

-- so a claim that isn't met stays so when another is served
pub IsUnmet-give : (F : Farm) (c : Claimed) (bs : List BoardRow) (t : ℕ) (wants : List Want) → IsStrictlySortedBy board_cmp (give F c bs t).boards
    → IsUnmet F wants → IsUnmet (give F c bs t) wants
IsUnmet-give F c bs t wants sorted none =
    let s = give_shrinks F c bs t in
    subst (λ types. least (give F c bs t).boards (is_free types) wants ≡ None) (sym s.0)
    (unmet_shrinks F.types F.boards (give F c bs t).boards wants sorted s.1 none)

-- and when another collects
pub IsUnmet-shrinks : (F G : Farm) (wants : List Want) → IsStrictlySortedBy board_cmp G.boards → (G.types ≡ F.types) × Shrinks F.types F.boards G.boards
    → IsUnmet F wants → IsUnmet G wants
IsUnmet-shrinks F G wants sorted s none = subst (λ types. least G.boards (is_free types) wants ≡ None) (sym s.0)
    (unmet_shrinks F.types F.boards G.boards wants sorted s.1 none)
