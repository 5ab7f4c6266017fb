-- One want is met where some board fits it.
use native.Mathlib.Omega.{arith}
use Rattle.std.proofs.Common.{[], ◌≡◌, List, ◌∷◌, ◌&&◌, not, is_none, Bool, option_map, refl}
use Rattle.farm_core.proofs.Names.{BoardRow, find, list_any, Want}
use Rattle.std.specs.List.{flat_map}
use Rattle.farm_types.specs.Names.{fits, least, meets}

module _ (test : BoardRow → Bool) (w : Want) where
  one : (xs : List BoardRow) → is_none (find (meets test (w ∷ [])) (flat_map (λ b. (b ∷ []) ∷ []) xs)) ≡ not (list_any (λ b. fits b w && test b) xs)
  one [] = refl
  one (b ∷ xs) = grind (arith, one xs)

  first : (xs : List BoardRow) → find (meets test (w ∷ [])) (flat_map (λ b. (b ∷ []) ∷ []) xs) ≡ option_map (λ b. b ∷ []) (find (λ b. test b && fits b w) xs)
  first [] = refl
  first (b ∷ xs) = grind (arith, first xs)

-- the least list of one board is the first board
pub least_first : (boards : List BoardRow) (test : BoardRow → Bool) (w : Want) → least boards test (w ∷ []) ≡ option_map (λ b. b ∷ []) (find (λ b. test b && fits b w) boards)
unfolding least
least_first boards test w = first test w boards

pub least_one : (boards : List BoardRow) (test : BoardRow → Bool) (w : Want) → is_none (least boards test (w ∷ [])) ≡ not (list_any (λ b. fits b w && test b) boards)
unfolding least
least_one boards test w = one test w boards
