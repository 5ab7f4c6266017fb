-- The keys of an object, in its order.
use Rattle.std.specs.Prelude.{◌≡◌, ℕ, List, [], ◌∷◌, true}
use Rattle.serde_json.specs.Data.{Data, object, Members, member, no_members}
use Rattle.farm_types.specs.Names.{rise}

abbrev pub keys : Members → List (List ℕ)
keys no_members = []
keys (member k d ms) = k ∷ keys ms

abbrev pub keys_of : Data → List (List ℕ)
keys_of (object ms) = keys ms
keys_of other = []

-- they rise in byte order, without doubles
abbrev pub KeysRise : Data → Type 0
KeysRise d = rise (keys_of d) ≡ true
