-- The bytes of names and tags show as they are.
use Rattle.std.proofs.Common.{◌≡◌, ℕ, ◌==◌, true, List, [], ◌∷◌, refl, arith, not}
use Rattle.std.specs.Prelude.{nat_le, IsTrue}
use Rattle.std.specs.List.{list_all}
use Rattle.std.proofs.lemmas.Bool.{and_parts}
use Rattle.std.proofs.lemmas.Bool.Decides.{nat_tests}
use Rattle.farm_types.specs.Names.{is_name_byte, IsName, IsTag, longest_name}
use Rattle.farm_types.proofs.WordLemmas.{name_bytes}
use Rattle.farm_types.proofs.TagLemmas.{tag_bytes}
use Rattle.farm_wire.specs.Plain.{is_plain}

low_is_plain : (c : ℕ) → is_name_byte c ≡ true → nat_le 32 c ≡ true
low_is_plain c is = grind (arith, nat_tests)

no_quote : (c : ℕ) → is_name_byte c ≡ true → not (c == 34) ≡ true
no_quote c is = grind (arith, nat_tests)

no_backslash : (c : ℕ) → is_name_byte c ≡ true → not (c == 92) ≡ true
no_backslash c is = grind (arith, nat_tests)

plain_byte : (c : ℕ) → is_name_byte c ≡ true → is_plain c ≡ true
plain_byte c is = rw (low_is_plain c is, no_quote c is, no_backslash c is) refl

plain_bytes : (xs : List ℕ) → list_all is_name_byte xs ≡ true → list_all is_plain xs ≡ true
plain_bytes [] all = refl
plain_bytes (x ∷ xs) all =
    let both = and_parts (is_name_byte x) (list_all is_name_byte xs) all in
    rw (plain_byte x both.0) (plain_bytes xs both.1)

pub name_is_plain : (name : List ℕ) → IsName name → IsTrue (list_all is_plain name)
name_is_plain name is = plain_bytes name (name_bytes longest_name name is)

pub tag_is_plain : (tag : List ℕ) → IsTag tag → IsTrue (list_all is_plain tag)
tag_is_plain tag is = tag_bytes is_plain refl plain_byte tag is
