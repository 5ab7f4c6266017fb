-- What a call that isn't refused has: each reason's test fails.
use Rattle.std.proofs.Common.{◌∙◌, ◌∷◌, ◌≡◌, Bool, IsSome, List, None, Option, Some, ap, false, is_none, is_some, not, refl, sym, true, ℕ}
use Rattle.farm_sound.proofs.Names.{false≢true, option_map_or}
use Rattle.farm_types.specs.Names.{first_code}
use Rattle.farm_sound.proofs.Tests.{not_false}

-- the first reason doesn't apply, and no later one
pub first_clear : (b : Bool) (code : ℕ) (rest : List (Bool × ℕ)) → first_code ((b, code) ∷ rest) ≡ None → (b ≡ false) × (first_code rest ≡ None)
first_clear true code rest is = cc
first_clear false code rest is = (refl, is)

-- what isn't missing is there
pub some_of : {A : Type 0} (o : Option A) → is_none o ≡ false → (a : A) × (o ≡ Some a)
some_of None is = absurd (false≢true (sym is))
some_of (Some a) is = (a, refl)

pub IsSome-from : {A : Type 0} (o : Option A) → is_none o ≡ false → IsSome o
IsSome-from None is = sym is
IsSome-from (Some a) is = refl

pub none_of : {A : Type 0} (o : Option A) → is_some o ≡ false → o ≡ None
none_of None is = refl
none_of (Some a) is = absurd (false≢true (sym is))

-- the row that is there passes
pub passes : {A : Type 0} (test : A → Bool) (o : Option A) (a : A) → o ≡ Some a → not (option_map_or test o false) ≡ false → test a ≡ true
passes test o a there is = sym (ap (λ p. option_map_or test p false) there) ∙ not_false (option_map_or test o false) is

-- or doesn't
pub fails : {A : Type 0} (test : A → Bool) (o : Option A) (a : A) → o ≡ Some a → option_map_or test o false ≡ false → test a ≡ false
fails test o a there is = sym (ap (λ p. option_map_or test p false) there) ∙ is
