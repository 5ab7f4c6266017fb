-- Values that a column stores as they are.
use Rattle.std.proofs.Common.{refl, Bool, true, false, ◌&&◌, ◌≡◌, List, [], ◌∷◌, ap₂}
use Rattle.std.proofs.lemmas.Bool.{false≢true, and_parts}
use Rattle.farm_store.proofs.Names.{cast, cast_all, Column, Int, Null, Row, Value}
use Rattle.sqlite.specs.declared.types.Value.TheVariants as value
use Rattle.sqlite_schema.specs.declared.schema.Kind.{Kind}
use Rattle.sqlite_schema.specs.declared.schema.Kind.TheVariants.{Integer, Text}
use Rattle.farm_store.proofs.Replace.{cast_int, cast_null}

-- a column of this kind stores the value as it is
abbrev pub fits : Kind → Value → Bool
fits Integer (Int n) = true
fits Integer Null = true
fits Text (value.Text t) = true
fits kind v = false

abbrev pub all_fit : List Column → Row → Bool
all_fit [] vs = true
all_fit (c ∷ cs) [] = true
all_fit (c ∷ cs) (v ∷ vs) = fits c.kind v && all_fit cs vs

stays : (kind : Kind) (v : Value) → fits kind v ≡ true → cast kind v ≡ v
stays Integer (Int n) fit = cast_int n
stays Integer Null fit = cast_null
stays Text (value.Text t) fit = refl
stays kind v fit = absurd (false≢true fit)

pub all_stay : (cs : List Column) (vs : Row) → all_fit cs vs ≡ true → cast_all cs vs ≡ vs
all_stay [] vs fit = refl
all_stay (c ∷ cs) [] fit = refl
all_stay (c ∷ cs) (v ∷ vs) fit = let both = and_parts (fits c.kind v) (all_fit cs vs) fit in ap₂ ◌∷◌ (stays c.kind v both.0) (all_stay cs vs both.1)
