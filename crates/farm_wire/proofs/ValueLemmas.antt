-- A tree as the value that it stands for, an item or a member after another.
use Rattle.std.proofs.Common.{◌≡◌, ℕ, List, [], ◌∷◌, ◌++◌, Option, Some, None, option_map, Result, refl, ap, ◌∙◌, Ok, Err}
use Rattle.json.specs.Json as json
use Rattle.serde_json.specs.Data.{Data, Items, no_items, item, Members, put}
use Rattle.serde_json.specs.Read.{of_json, of_items, of_members}
use Rattle.serde_json.specs.View.{view, items_view}
use Rattle.serde_json.specs.declared.value.Value.{Value}
use Rattle.farm_types.specs.Names.{bad_request, FaultOrNoMemory, refused_code}
use Rattle.farm_types.specs.declared.fault.WordFault.{WordFault}
use Rattle.farm_wire.specs.Fields.{there_or}

-- what is there is what it was read as
pub there_is : {A : Type 0} (o : Option A) (a : A) → there_or o ≡ Ok a → o ≡ Some a
there_is None a e = absurd (cc)
there_is (Some b) a e = cc

one_code : {A : Type 0} (r : Result A ℕ) (x y : ℕ) → r ≡ Err x → r ≡ Err y → x ≡ y
one_code r x y e f = cc

-- what isn't there makes the whole refused as it is
pub refused_within : {A B : Type 0} (fault : WordFault) (o : Option A) (whole : Option B) → (o ≡ None → whole ≡ None)
    → FaultOrNoMemory (refused_code fault) (there_or o) → FaultOrNoMemory (refused_code fault) (there_or whole)
refused_within (WordFault.Refused r) None whole none e = ap there_or (none refl) ∙ ap (λ c. Err c) (one_code _ bad_request r.code refl e)
refused_within (WordFault.Refused r) (Some a) whole none e = absurd (cc)
refused_within WordFault.NoMemory o whole none e = tt

-- ---- items

abbrev pub items_before : List Value → Items → Items
items_before [] rest = rest
items_before (v ∷ vs) rest = item (view v) (items_before vs rest)

pub items_before-no_items : (vs : List Value) → items_before vs no_items ≡ items_view vs
items_before-no_items [] = refl
items_before-no_items (v ∷ vs) = ap (item (view v)) (items_before-no_items vs)

items_push : (vs : List Value) (v : Value) (rest : Items) → items_before vs (item (view v) rest) ≡ items_before (vs ++ v ∷ []) rest
items_push [] v rest = refl
items_push (w ∷ vs) v rest = ap (item (view w)) (items_push vs v rest)

one_more : (vs : List Value) (v : Value) (rest : Option Items) → option_map (items_before vs) (option_map (item (view v)) rest) ≡ option_map (items_before (vs ++ v ∷ [])) rest
one_more vs v None = refl
one_more vs v (Some ds) = ap Some (items_push vs v ds)

pub item_copied : (vs : List Value) (v : Value) (j : json.Json) (js : json.Items) → of_json j ≡ Some (view v)
    → option_map (items_before vs) (of_items (json.item j js)) ≡ option_map (items_before (vs ++ v ∷ [])) (of_items js)
item_copied vs v j js e = rw e (one_more vs v (of_items js))

-- ---- members

pub member_copied : (old : Members) (k : List ℕ) (j : json.Json) (d : Data) (js : json.Members) → of_json j ≡ Some d
    → of_members (json.member k j js) old ≡ of_members js (put k d old)
member_copied old k j d js e = rw e
