-- Tags that were read from a text.
use Rattle.std.proofs.Common.{◌≡◌, ℕ, true, false, List, Result, Ok, Err, IsErrAnd, sym, ap, ◌∙◌, arith}
use Rattle.std.specs.Prelude.{nat_le, nat_lt}
use Rattle.farm_store.proofs.Names.{list_all, nat_tests, ReadsWord, tags_read_back, Value}
use Rattle.sqlite.specs.declared.types.Value.TheVariants.{Text}
use Rattle.farm_types.specs.Words.{IsTags, is_tags}
use Rattle.farm_types.specs.Tags.{tags_read, tags_text}
use Rattle.farm_types.specs.Reads.{FaultOrNoMemory, refused_code}
use Rattle.farm_types.specs.declared.fault.WordFault.{WordFault}
use Rattle.farm_types.proofs.WordLemmas.{and_parts}

few : (n : ℕ) → nat_lt 16 n ≡ false → nat_le n 16 ≡ true
few n h = grind (arith, nat_tests)

-- they are tags
pub read_good : (text : List ℕ) (tags : List (List ℕ)) → tags_read text ≡ Ok tags → IsTags tags
unfolding tags_read is_tags
read_good text tags read = grind (arith, list_all, and_parts, few, nat_tests)

pub same_text : (s t : List ℕ) → Text s ≡ Text t → s ≡ t
same_text s t e = cc

-- a text that was refused is that of no tags
pub read_bad : (text : List ℕ) (code : ℕ) (tags : List (List ℕ)) → tags_read text ≡ Err code → IsTags tags → Text text ≡ Text (tags_text tags) → ⊥
read_bad text code tags refused good is =
    let e = sym refused ∙ ap tags_read (same_text text (tags_text tags) is) ∙ tags_read_back tags good in cc

pub refuses_tags : (r : Result (List (List ℕ)) WordFault) (fault : WordFault) (text : List ℕ) (value : Value) → IsErrAnd r (λ e. e ≡ fault) → value ≡ Text text → FaultOrNoMemory (refused_code fault) (tags_read text)
    → ReadsWord r IsTags (λ tags. Text (tags_text tags)) value
refuses_tags (Ok tags) fault text value is there read = absurd is
refuses_tags (Err e) WordFault.NoMemory text value is there read = λ known. absurd (known is)
refuses_tags (Err e) (WordFault.Refused refusal) text value is there read = λ _ tags good same. read_bad text refusal.code tags read good (sym there ∙ same)
