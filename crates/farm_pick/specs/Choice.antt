-- Which boards may be given for a want, and lists of different places, one for each of some wants,
-- whatever a want is.
use Rattle.std.specs.Prelude.{◌≡◌, ℕ, ◌<◌, ◌≤◌, ◌⊎◌, ◌&&◌, ◌||◌, Bool, true, false, List, [], ◌∷◌, length, ⊤, ◌==◌, slice_get}
use Rattle.std.specs.List.{AllByRecursion, list_any}
use Rattle.std.specs.Option.{option_map_or}
use Rattle.std.specs.Str.{bytes_eq}
use Rattle.farm_types.specs.Names.{fits, is_free, name_tag, not_retired}
use Rattle.farm_types.specs.declared.rows.BoardRow.{BoardRow}
use Rattle.farm_types.specs.declared.rows.TypeRow.{TypeRow}
use Rattle.farm_types.specs.declared.rows.Want.{Want}
use Rattle.farm_pick.specs.declared.fit.Free.{Free}
use Rattle.farm_pick.specs.declared.fit.Free.TheVariants.{ServingIdle, NotRetired}

-- the tag is one of the board's, or the one that it carries for its name
abbrev pub carries : BoardRow → List ℕ → Bool
carries board tag = list_any (bytes_eq tag) board.tags || bytes_eq tag (name_tag board.name)

-- what is asked of a board beside that it fits
abbrev pub passes : List TypeRow → Free → BoardRow → Bool
passes types ServingIdle = is_free types
passes types NotRetired = not_retired

-- a board that fits the want and passes the test
abbrev pub is_candidate : (BoardRow → Bool) → Want → BoardRow → Bool
is_candidate test want board = fits board want && test board

-- ---- lists of places

-- whether x is among xs
abbrev pub has : List ℕ → ℕ → Bool
has xs x = list_any (λ y. y == x) xs

-- each is less than all later ones
abbrev pub Ascends : List ℕ → Type 0
Ascends [] = ⊤
Ascends (x ∷ xs) = AllByRecursion (λ y. x < y) xs × Ascends xs

-- the places ps are different, none is in use, and each serves the want at its place
abbrev pub Chooses : {W : Type 0} → (W → ℕ → Bool) → List ℕ → List W → List ℕ → Type 0
Chooses serves used [] [] = ⊤
Chooses serves used [] (p ∷ ps) = ⊥
Chooses serves used (w ∷ ws) [] = ⊥
Chooses serves used (w ∷ ws) (p ∷ ps) =
    (serves w p ≡ true) × (has used p ≡ false) × (has ps p ≡ false) × Chooses serves used ws ps

-- ps is qs or comes before it
abbrev pub IsNotAfter : List ℕ → List ℕ → Type 0
IsNotAfter [] qs = ⊤
IsNotAfter (p ∷ ps) [] = ⊥
IsNotAfter (p ∷ ps) (q ∷ qs) = (p < q) ⊎ ((p ≡ q) × IsNotAfter ps qs)

pub record IsLeastChoice {W : Type 0} (serves : W → ℕ → Bool) (used : List ℕ) (ws : List W)
    (ps : List ℕ) : Type 0 where
  pub chooses : Chooses serves used ws ps
  pub least : (qs : List ℕ) → Chooses serves used ws qs → IsNotAfter ps qs

-- xs are the first places that pass, in order: all of them, or at least as many as the limit
pub record IsShortlist (test : ℕ → Bool) (limit : ℕ) (xs : List ℕ) : Type 0 where
  pub ascends : Ascends xs
  pub pass : AllByRecursion (λ x. test x ≡ true) xs
  pub first : (x : ℕ) → test x ≡ true → (has xs x ≡ true)
      ⊎ ((limit ≤ length xs) × AllByRecursion (λ y. y < x) xs)

-- ---- the board at a place

-- whether the board at a place is a candidate
abbrev pub candidate_at : List BoardRow → (BoardRow → Bool) → Want → ℕ → Bool
candidate_at boards test want i = option_map_or (is_candidate test want) (slice_get boards i) false

-- whether the board at a place has a name
abbrev pub is_named : List BoardRow → List ℕ → ℕ → Bool
is_named boards name place = option_map_or (λ b. bytes_eq b.name name) (slice_get boards place)
    false

-- and fits a want
abbrev pub named_at : List BoardRow → List ℕ → Want → ℕ → Bool
named_at boards name want place = option_map_or (λ b. bytes_eq b.name name && fits b want)
    (slice_get boards place) false
