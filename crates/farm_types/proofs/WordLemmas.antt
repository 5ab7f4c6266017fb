-- The bytes of a word are ASCII, so they are a text.
use Rattle.std.proofs.Common.{◌≡◌, ℕ, ◌<◌, ◌&&◌, Bool, true, false, List, [], ◌∷◌, length, arith, refl}
use Rattle.std.specs.Prelude.{nat_le}
use Rattle.std.specs.List.{list_all}
use Rattle.std.specs.Str.{IsUtf8, IsAscii, is_utf8}
use Rattle.std.proofs.lemmas.Str.{IsUtf8-from_ascii, IsUtf8-nil, is_utf8-from_IsUtf8}
use Rattle.std.proofs.lemmas.Str.Ascii.{IsAscii-nil}
use Rattle.std.proofs.lemmas.Bool.Decides.{nat_tests}
use Rattle.farm_types.specs.Words.{is_name_byte, is_word}

pub below_ascii : (c : ℕ) → is_name_byte c ≡ true → c < 128
below_ascii c is = grind (arith, nat_tests)

pub ascii_bytes : (xs : List ℕ) → list_all is_name_byte xs ≡ true → IsAscii xs
ascii_bytes [] all = IsAscii-nil
ascii_bytes (x ∷ xs) all = grind (arith, ascii_bytes xs)

pub and_parts : (p q : Bool) → (p && q) ≡ true → (p ≡ true) × (q ≡ true)
and_parts true q is = (refl, is)
and_parts false q is = cc

-- each byte of a word may stand in one
pub name_bytes : (most : ℕ) (text : List ℕ) → is_word most text ≡ true → list_all is_name_byte text ≡ true
unfolding is_word
name_bytes most text is = (and_parts (nat_le 1 (length text) && nat_le (length text) most) (list_all is_name_byte text) is).1

pub IsUtf8_of_word : (most : ℕ) (text : List ℕ) → is_word most text ≡ true → IsUtf8 text
IsUtf8_of_word most text is = IsUtf8-from_ascii text (ascii_bytes text (name_bytes most text is))

-- a text is UTF-8, and so is no text
pub is_text : (text : List ℕ) → IsUtf8 text → is_utf8 text ≡ true
is_text text is = is_utf8-from_IsUtf8 text is

pub no_text : (text : List ℕ) → text ≡ [] → is_utf8 text ≡ true
no_text [] none = is_utf8-from_IsUtf8 [] IsUtf8-nil
no_text (c ∷ text) none = cc
