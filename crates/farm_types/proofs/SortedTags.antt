-- Tags that rise are sorted, and what a put keeps of them.
use Rattle.std.proofs.Common.{◌≡◌, ◌∙◌, ℕ, ◌+◌, ◌<◌, ◌≤◌, ◌==◌, ◌&&◌, Bool, true, false, cond, List, [], ◌∷◌, length, take, get_or, sym, ap, refl, arith, Ok}
use Rattle.std.proofs.Common.{Err}
use Rattle.std.specs.Prelude.{nat_le, nat_lt}
use Rattle.std.specs.List.{list_all, AllByRecursion, slice_split}
use Rattle.std.specs.List.Sorted.{IsStrictlySortedBy}
use Rattle.std.specs.Cmp.Lexicographic.{nat_list_cmp_total}
use Rattle.std.specs.Ordering.{is_lt}
use Rattle.std.proofs.lemmas.Bool.Decides.{nat_tests}
use Rattle.std.proofs.lemmas.List.{take_more}
use Rattle.std.proofs.lemmas.List.Sums.{fold-append}
use Rattle.farm_types.specs.Words.{IsTag, IsTags, is_tag, is_tags, rise, text_cmp, word_or}
use Rattle.farm_types.specs.Tags.{tag_parts, list_of_tags, tags_read, tags_text}
use Rattle.std.proofs.lemmas.List.Splits.{join_with_byte-slice_split}
use Rattle.farm_types.proofs.TagLemmas.{parts_of_text}
use Rattle.farm_types.specs.Table.{put, put_all}
use Rattle.farm_types.proofs.Put.{AllByRecursion-weaker, AllByRecursion-put, length_put}
use Rattle.farm_types.specs.declared.fault.WordFault.{WordFault}
use Rattle.farm_types.specs.declared.fault.WordFault.TheVariants.{Refused, NoMemory}
use Rattle.farm_types.specs.Refusals.{bad_tag, bad_count}
use Rattle.farm_types.specs.Reads.{FaultOrNoMemory, refused_code}
use Rattle.farm_types.proofs.Searched.{is_lt-Less}
use Rattle.farm_types.proofs.WordLemmas.{and_parts}

pub sorted_from_rise : (xs : List (List ℕ)) → rise xs ≡ true → IsStrictlySortedBy text_cmp xs
unfolding IsStrictlySortedBy
sorted_from_rise [] up = tt
sorted_from_rise (x ∷ []) up = (tt, tt)
sorted_from_rise (x ∷ y ∷ rest) up =
    let both = and_parts (is_lt (text_cmp x y)) (rise (y ∷ rest)) up in
    let less = is_lt-Less (text_cmp x y) both.0 in
    let tail = sorted_from_rise (y ∷ rest) both.1 in
    ((less, AllByRecursion-weaker (λ z above. nat_list_cmp_total.trans x y z less above) rest tail.0), tail)

pub rise_from_sorted : (xs : List (List ℕ)) → IsStrictlySortedBy text_cmp xs → rise xs ≡ true
unfolding IsStrictlySortedBy
rise_from_sorted [] sorted = refl
rise_from_sorted (x ∷ []) sorted = refl
rise_from_sorted (x ∷ y ∷ rest) sorted = rw (sorted.0.0) (rise_from_sorted (y ∷ rest) sorted.1)

same_answer : (a b : Bool) → (a ≡ true → b ≡ true) → (b ≡ true → a ≡ true) → a ≡ b
same_answer true b to from = sym (to refl)
same_answer false true to from = from refl
same_answer false false to from = refl

-- the test by neighbours is the test of order
pub rise_is : (xs : List (List ℕ)) (answer : Bool) → (answer ≡ true → IsStrictlySortedBy text_cmp xs) → (IsStrictlySortedBy text_cmp xs → answer ≡ true) → answer ≡ rise xs
rise_is xs answer to from = same_answer answer (rise xs) (λ yes. rise_from_sorted xs (to yes)) (λ up. from (sorted_from_rise xs up))

all_tags : (xs : List (List ℕ)) → AllByRecursion IsTag xs → list_all is_tag xs ≡ true
all_tags [] all = refl
all_tags (x ∷ xs) all = rw all.0 (all_tags xs all.1)

few : (n : ℕ) → n ≤ 16 → nat_le n 16 ≡ true
few n small = grind (arith, nat_tests)

-- at most sixteen tags in order are tags
pub tags_from : (xs : List (List ℕ)) → length xs ≤ 16 → AllByRecursion IsTag xs → IsStrictlySortedBy text_cmp xs → IsTags xs
unfolding is_tags
tags_from xs small all sorted = rw (few (length xs) small, all_tags xs all) (rise_from_sorted xs sorted)

-- one more tag is put
pub put_all-more : (xs : List (List ℕ)) (at : ℕ) (x : List ℕ) → at < length xs → get_or xs at x ≡ x → put text_cmp (put_all text_cmp [] (take at xs)) x ≡ put_all text_cmp [] (take (at + 1) xs)
put_all-more xs at x lt is = rw (take_more xs at x lt, is) (sym (fold-append (put text_cmp) [] (take at xs) (x ∷ [])))

pub parts_of_none : (text : List ℕ) → (length text == 0) ≡ true → tag_parts text ≡ []
parts_of_none [] none = refl
parts_of_none (c ∷ text) none = absurd (grind (arith, nat_tests))

pub parts_of_some : (text : List ℕ) → (length text == 0) ≡ false → tag_parts text ≡ slice_split (λ byte. byte == 44) text
parts_of_some [] some = absurd (grind (arith, nat_tests))
parts_of_some (c ∷ text) some = refl

-- a part that is refused refuses the list
pub refused_part : (fault : WordFault) (part : List ℕ) (parts : List (List ℕ)) → FaultOrNoMemory {Y = List ℕ} (refused_code fault) (word_or (is_tag part) part bad_tag) → (is_tag part ≡ false → list_all is_tag parts ≡ false) → FaultOrNoMemory {Y = List (List ℕ)} (refused_code fault) (list_of_tags parts)
refused_part NoMemory part parts bad all = tt
refused_part (Refused refusal) part parts bad all = grind arith

pub none_put : (items : List (List ℕ)) → items ≡ [] → (items ≡ put_all text_cmp [] []) × IsStrictlySortedBy text_cmp items × AllByRecursion IsTag items × (length items ≤ 0)
unfolding IsStrictlySortedBy
none_put [] is = (refl, tt, tt, omega arith)
none_put (x ∷ items) is = cc

-- one more of the tags is put
pub one_put : (tags items new : List (List ℕ)) (at : ℕ) (tag copy : List ℕ) → at < length tags → get_or tags at tag ≡ tag → copy ≡ tag → IsTag tag
    → items ≡ put_all text_cmp [] (take at tags) → IsStrictlySortedBy text_cmp items → AllByRecursion IsTag items → length items ≤ at → new ≡ put text_cmp items copy
    → (new ≡ put_all text_cmp [] (take (at + 1) tags)) × AllByRecursion IsTag new × (length new ≤ at + 1)
one_put tags items new at tag copy lt here same is put_is sorted each small new_is =
    let taken : new ≡ put text_cmp items tag = new_is ∙ ap (put text_cmp items) same in (
      taken ∙ rw put_is (put_all-more tags at tag lt here),
      rw taken (AllByRecursion-put text_cmp nat_list_cmp_total tag IsTag is items each),
      rw taken (omega (arith, length_put text_cmp nat_list_cmp_total tag items)),
    )

-- a short list of tags that rises is tags
pub tags_checked : (parts items : List (List ℕ)) → list_of_tags parts ≡ Ok items → length parts ≤ 16 → rise items ≡ true → IsTags items
unfolding is_tags
tags_checked parts items read small up = grind (arith, nat_tests)

not_many : (n : ℕ) → nat_le n 16 ≡ true → nat_lt 16 n ≡ false
not_many n small = grind (arith, nat_tests)

-- the canonical text of tags reads back
pub tags_read_back : (tags : List (List ℕ)) → IsTags tags → tags_read (tags_text tags) ≡ Ok tags
unfolding is_tags tags_read
tags_read_back tags is =
    let all = and_parts (nat_le (length tags) 16 && list_all is_tag tags) (rise tags) is in
    let both = and_parts (nat_le (length tags) 16) (list_all is_tag tags) all.0 in
    rw (parts_of_text tags both.1, not_many (length tags) both.0, both.1, all.1)

-- and no other text reads as these tags
pub tags_read_only : (tags : List (List ℕ)) (text : List ℕ) → tags_read text ≡ Ok tags → tags_text tags ≡ text
unfolding tags_read
tags_read_only tags text read = by (nat_lt 16 (length (tag_parts text))) (list_all is_tag (tag_parts text) && rise (tag_parts text)) read
  where
    joined : (text : List ℕ) → tags_text (tag_parts text) ≡ text
    joined [] = refl
    joined (c ∷ text) = join_with_byte-slice_split 44 (c ∷ text)

    by : (many good : Bool) → cond many (Err bad_count) (cond good (Ok (tag_parts text)) (Err bad_tag)) ≡ Ok tags → tags_text tags ≡ text
    by true good read = cc
    by false true read = let same : tag_parts text ≡ tags = cc in ap tags_text (sym same) ∙ joined text
    by false false read = cc
