-- The key of a tag, by the place of the first '=', and what a tag is by it.
use Rattle.std.proofs.Common.{◌≡◌, ℕ, ◌+◌, ◌<◌, ◌==◌, ◌&&◌, ◌||◌, Bool, true, false, cond, not, List, [], ◌∷◌, length, take, drop, Some, None, sym, ap}
use Rattle.std.proofs.Common.{◌∙◌, refl, arith, suc, add-one, ◌++◌, append_assoc, get_or}
use Rattle.std.specs.List.{position, prefix_len, list_all, slice_split}
use Rattle.std.proofs.lemmas.List.{take_all, take_more, length-take}
use Rattle.farm_types.specs.Tags.{tags_text, tag_parts}
use mathlib.Core.Bool.{true≢false}
use Rattle.std.proofs.lemmas.Bool.Decides.{nat_tests}
use Rattle.std.specs.Prelude.{nat_lt}
use Rattle.std.specs.Str.{bytes_eq, IsUtf8, IsAscii}
use Rattle.std.proofs.Math.Bool.{and-true, and-false}
use Rattle.std.proofs.lemmas.Slice.Eq.{bytes_eq-Decides}
use Rattle.farm_types.proofs.WordLemmas.{below_ascii, name_bytes, and_parts}
use Rattle.std.proofs.lemmas.Str.Ascii.{IsAscii-nil, IsAscii-cons}
use Rattle.std.proofs.lemmas.Str.{IsUtf8-from_ascii}
use Rattle.farm_types.specs.Words.{tag_key, is_tag, is_word, is_name_byte}

pub key_at : (xs : List ℕ) (end : ℕ) → position (λ c. c == 61) xs ≡ Some end → take end xs ≡ tag_key xs
key_at xs end is = grind (arith, nat_tests)

pub key_whole : (xs : List ℕ) → position (λ c. c == 61) xs ≡ None → xs ≡ tag_key xs
key_whole xs is = grind (arith, take_all (prefix_len (λ c. not (c == 61)) xs) xs, nat_tests)

short_key : (xs : List ℕ) (end : ℕ) → position (λ c. c == 61) xs ≡ Some end → end < length xs
short_key xs end is = grind (arith, nat_tests)

text_itself : (text : List ℕ) → bytes_eq text text ≡ true
text_itself text = (bytes_eq-Decides text text).1 refl

-- a text that is shorter is another
differs_by_length : (xs ys : List ℕ) → length xs < length ys → bytes_eq xs ys ≡ false
differs_by_length [] [] less = absurd (omega arith)
differs_by_length [] (y ∷ ys) less = refl
differs_by_length (x ∷ xs) [] less = absurd (omega arith)
differs_by_length (x ∷ xs) (y ∷ ys) less = rw (differs_by_length xs ys (omega arith)) (and-false (x == y))

pub tag_without : (xs : List ℕ) → position (λ c. c == 61) xs ≡ None → is_tag xs ≡ is_word 32 xs
unfolding is_tag
tag_without xs is =
    let e : xs ≡ tag_key xs = key_whole xs is in
    rw (← e) (rw (text_itself xs) (and-true (is_word 32 xs)))

pub tag_with : (xs : List ℕ) (end : ℕ) → position (λ c. c == 61) xs ≡ Some end → is_tag xs ≡ (is_word 32 (take end xs) && is_word 64 (drop (end + 1) xs))
unfolding is_tag
tag_with xs end is =
    let e : take end xs ≡ tag_key xs = key_at xs end is in
    let short : end < length xs = short_key xs end is in
    let long : length (take end xs) ≡ end = grind (arith, length-take {A = ℕ}) in
    rw (← e) (rw (differs_by_length (take end xs) xs (omega arith), long))

one_more : (n : ℕ) → 1 + n ≡ suc n
one_more n = omega arith

either : (p q : Bool) (P : Type 0) → (p ≡ true → P) → (q ≡ true → P) → (p || q) ≡ true → P
either true q P yes_p yes_q is = yes_p refl
either false q P yes_p yes_q is = yes_q is

-- each byte of a key, of '=' and of a value passes a test that '=' and the bytes of words pass
module _ (test : ℕ → Bool) (equals : test 61 ≡ true) (words : (c : ℕ) → is_name_byte c ≡ true → test c ≡ true) where
  word_bytes : (xs : List ℕ) → list_all is_name_byte xs ≡ true → list_all test xs ≡ true
  word_bytes [] all = refl
  word_bytes (x ∷ xs) all =
      let both = and_parts (is_name_byte x) (list_all is_name_byte xs) all in
      rw (words x both.0) (word_bytes xs both.1)

  keyed_bytes : (xs : List ℕ) → list_all is_name_byte (tag_key xs) ≡ true → list_all is_name_byte (drop (suc (length (tag_key xs))) xs) ≡ true → list_all test xs ≡ true
  keyed_bytes [] key value = refl
  keyed_bytes (x ∷ xs) key value = by (keyed_bytes xs) (x == 61) refl key value
    where
      by : (list_all is_name_byte (tag_key xs) ≡ true → list_all is_name_byte (drop (suc (length (tag_key xs))) xs) ≡ true → list_all test xs ≡ true) → (b : Bool) → (x == 61) ≡ b
          → list_all is_name_byte (take (cond (not b) (1 + prefix_len (λ c. not (c == 61)) xs) 0) (x ∷ xs)) ≡ true
          → list_all is_name_byte (drop (suc (length (take (cond (not b) (1 + prefix_len (λ c. not (c == 61)) xs) 0) (x ∷ xs)))) (x ∷ xs)) ≡ true → list_all test (x ∷ xs) ≡ true
      by more true is key value =
          let same : x ≡ 61 = grind (arith, nat_tests) in
          rw (same, equals) (word_bytes xs value)
      by more false is key value =
          let both = and_parts (is_name_byte x) (list_all is_name_byte (tag_key xs)) (rw (one_more (prefix_len (λ c. not (c == 61)) xs)) at key) in
          rw (words x both.0) (more both.1 (rw (one_more (prefix_len (λ c. not (c == 61)) xs)) at value))

  pub tag_bytes : (text : List ℕ) → is_tag text ≡ true → list_all test text ≡ true
  unfolding is_tag
  tag_bytes text is =
      let both = and_parts (is_word 32 (tag_key text)) (bytes_eq (tag_key text) text || is_word 64 (drop (length (tag_key text) + 1) text)) is in
      let key = name_bytes 32 (tag_key text) both.0 in
      either (bytes_eq (tag_key text) text) (is_word 64 (drop (length (tag_key text) + 1) text)) (list_all test text ≡ true)
      (λ same. let e : tag_key text ≡ text = (bytes_eq-Decides (tag_key text) text).0 same in word_bytes text (rw e at key))
      (λ value. keyed_bytes text key (rw add-one at (name_bytes 64 (drop (length (tag_key text) + 1) text) value)))
      both.1

ascii_from_test : (xs : List ℕ) → list_all (λ c. nat_lt c 128) xs ≡ true → IsAscii xs
ascii_from_test [] all = IsAscii-nil
ascii_from_test (x ∷ xs) all =
    let both = and_parts (nat_lt x 128) (list_all (λ c. nat_lt c 128) xs) all in
    let low = both.0 in
    IsAscii-cons x xs (grind (arith, nat_tests)) (ascii_from_test xs both.1)

low_byte : (c : ℕ) → is_name_byte c ≡ true → nat_lt c 128 ≡ true
low_byte c is = let low = below_ascii c is in grind (arith, nat_tests)

pub IsUtf8_of_tag : (text : List ℕ) → is_tag text ≡ true → IsUtf8 text
IsUtf8_of_tag text is = IsUtf8-from_ascii text (ascii_from_test text (tag_bytes (λ c. nat_lt c 128) refl low_byte text is))

-- one more tag behind the text of others
joined : (y : List ℕ) (ys : List (List ℕ)) (x : List ℕ) → (tags_text (y ∷ ys) ++ 44 ∷ []) ++ x ≡ tags_text ((y ∷ ys) ++ x ∷ [])
joined y [] x = append_assoc y (44 ∷ []) x
joined y (z ∷ ys) x =
    append_assoc (y ++ (44 ∷ tags_text (z ∷ ys))) (44 ∷ []) x ∙ (append_assoc y (44 ∷ tags_text (z ∷ ys)) (44 ∷ x)
    ∙ ap (λ rest. y ++ (44 ∷ rest)) (sym (append_assoc (tags_text (z ∷ ys)) (44 ∷ []) x) ∙ joined z ys x))

not_none : (n : ℕ) → 0 < n → (n == 0) ≡ false
not_none n some = grind (arith, nat_tests)

separated : (ys : List (List ℕ)) (x : List ℕ) → (tags_text ys ++ cond (length ys == 0) [] (44 ∷ [])) ++ x ≡ tags_text (ys ++ x ∷ [])
separated [] x = refl
separated (y ∷ ys) x = rw (not_none (length (y ∷ ys)) (omega arith)) (joined y ys x)

pub tags_text-more : (tags : List (List ℕ)) (at : ℕ) (tag : List ℕ) → at < length tags → get_or tags at tag ≡ tag
    → (tags_text (take at tags) ++ cond (at == 0) [] (44 ∷ [])) ++ tag ≡ tags_text (take (at + 1) tags)
tags_text-more tags at tag lt is =
    let long : length (take at tags) ≡ at = grind (arith, length-take {A = List ℕ}) in
    let step : (tags_text (take at tags) ++ cond (length (take at tags) == 0) [] (44 ∷ [])) ++ tag ≡ tags_text (take at tags ++ tag ∷ []) = separated (take at tags) tag in
    rw (take_more tags at tag lt, is) (rw long at step)

-- no comma stands in a tag, so the parts of a canonical text are its tags
no_comma : (c : ℕ) → is_name_byte c ≡ true → not (c == 44) ≡ true
no_comma c is = grind (arith, nat_tests)

whole : (xs : List ℕ) → list_all (λ c. not (c == 44)) xs ≡ true → slice_split (λ c. c == 44) xs ≡ xs ∷ []
whole [] free = refl
whole (x ∷ xs) free = grind (arith, whole xs, nat_tests)

cut : (xs tail : List ℕ) → list_all (λ c. not (c == 44)) xs ≡ true → slice_split (λ c. c == 44) (xs ++ (44 ∷ tail)) ≡ xs ∷ slice_split (λ c. c == 44) tail
cut [] tail free = refl
cut (x ∷ xs) tail free = grind (arith, cut xs tail, nat_tests)

split_text : (tag : List ℕ) (tags : List (List ℕ)) → list_all is_tag (tag ∷ tags) ≡ true → slice_split (λ c. c == 44) (tags_text (tag ∷ tags)) ≡ tag ∷ tags
split_text tag [] all = whole tag (tag_bytes (λ c. not (c == 44)) refl no_comma tag (and_parts (is_tag tag) true all).0)
split_text tag (next ∷ tags) all =
    let both = and_parts (is_tag tag) (list_all is_tag (next ∷ tags)) all in
    cut tag (tags_text (next ∷ tags)) (tag_bytes (λ c. not (c == 44)) refl no_comma tag both.0) ∙ ap (λ rest. tag ∷ rest) (split_text next tags both.1)

not_empty : (tag : List ℕ) (tags : List (List ℕ)) → is_tag tag ≡ true → (text : List ℕ) → text ≡ tags_text (tag ∷ tags) → tag_parts text ≡ slice_split (λ c. c == 44) text
unfolding is_tag is_word
not_empty tag tags is (c ∷ text) e = refl
not_empty [] tags is [] e = absurd (true≢false (sym is))
not_empty (c ∷ tag) [] is [] e = cc
not_empty (c ∷ tag) (next ∷ tags) is [] e = cc

pub parts_of_text : (tags : List (List ℕ)) → list_all is_tag tags ≡ true → tag_parts (tags_text tags) ≡ tags
parts_of_text [] all = refl
parts_of_text (tag ∷ tags) all =
    not_empty tag tags (and_parts (is_tag tag) (list_all is_tag tags) all).0 (tags_text (tag ∷ tags)) refl ∙ split_text tag tags all
