-- Texts that are words.
use Rattle.std.proofs.Common.{◌≡◌, ℕ, ◌+◌, ◌≤◌, ◌&&◌, true, List, ◌++◌, length, refl, arith, length-append, codes}
use Rattle.std.specs.Prelude.{nat_le}
use Rattle.std.specs.List.{list_all}
use Rattle.std.proofs.lemmas.Bool.Decides.{nat_tests}
use Rattle.std.proofs.lemmas.List.Folds.{list_all-append}
use Rattle.farm_types.specs.Names.{is_name_byte, longest_key, longest_name}
use Rattle.farm_types.specs.Words.{is_word}
use Rattle.farm_types.proofs.WordLemmas.{and_parts}

pub admin_is_word : is_word longest_name (codes "admin") ≡ true
unfolding is_word
admin_is_word = refl

-- a short prefix and a name are a key
pub key_is_word : (prefix name : List ℕ) → length prefix ≤ 16 → list_all is_name_byte prefix ≡ true → is_word longest_name name ≡ true → is_word longest_key (prefix ++ name) ≡ true
unfolding is_word
key_is_word prefix name short bytes is =
    let all = and_parts (nat_le 1 (length name) && nat_le (length name) longest_name) (list_all is_name_byte name) is in
    let sizes = and_parts (nat_le 1 (length name)) (nat_le (length name) longest_name) all.0 in
    let some : nat_le 1 (length (prefix ++ name)) ≡ true = at_least (length name) (length prefix) _ (length-append prefix name) sizes.0 in
    let few : nat_le (length (prefix ++ name)) 64 ≡ true = at_most (length name) (length prefix) _ (length-append prefix name) short sizes.1 in
    rw (some, few, list_all-append is_name_byte prefix name, bytes, all.1) refl
  where
    at_least : (n p k : ℕ) → k ≡ p + n → nat_le 1 n ≡ true → nat_le 1 k ≡ true
    at_least n p k sum h = grind (arith, nat_tests)

    at_most : (n p k : ℕ) → k ≡ p + n → p ≤ 16 → nat_le n longest_name ≡ true → nat_le k longest_key ≡ true
    at_most n p k sum short h = grind (arith, nat_tests)
