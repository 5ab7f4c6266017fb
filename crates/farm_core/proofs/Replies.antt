-- The kept replies as their packed entries and their map show them.
pub mod Merged
pub mod Packing
pub mod Joined
use Rattle.std.proofs.Common.{[], ◌≡◌, ◌∙◌, ◌≤◌, ◌+◌, ◌++◌, ℕ, List, ◌∷◌, map, length, cond, Some, None, IsTrue}
use Rattle.std.proofs.Common.{sym, ap, subst, arith}
use Rattle.std.specs.Prelude.{not, option_map}
use Rattle.farm_core.proofs.Names.{AllByRecursion, find, Global, IsStrictlySortedBy, kept_total, KeptRow, nat_tests, put_sorted}
use Rattle.std.specs.List.{filter}
use Rattle.std.specs.Option.{option_or, is_some}
use Rattle.std.specs.declared.string.String.{String}
use Rattle.std.proofs.lemmas.List.Kept.{IsStrictlySortedBy-filter}
use Rattle.farm_types.specs.Names.{is_word, IsSmallKept, kept_cmp, put, put_all}
use Rattle.farm_table.proofs.Steps.{all_push}
use Rattle.farm_core.proofs.Replies.Merged.{find_over, length_put_is, put_above, put_all_sorted, split_rows}
use Rattle.farm_core.proofs.Replies.Packing.{is_asked, texts_tie}
use Rattle.farm_core.specs.Replies.{AreJoined, IsKept, is_packable, kept_row, kept_rows, kept_reply, packed_rows}
use Rattle.farm_core.specs.declared.kept.packed.Packed.{Packed}
use Rattle.farm_core.specs.declared.kept.KeptReply.{KeptReply}

-- a word is no longer than it may be
pub word_fits : (most : ℕ) (text : List ℕ) → IsTrue (is_word most text) → length text ≤ most
unfolding is_word
word_fits most text word = grind (arith, nat_tests)

-- ---- the packed rows and the others

module _ (p : Packed) (es : List (String Global × KeptReply)) where
  -- a row of the map is found, and where it has none a packed one
  found_over : (q : KeptRow) → IsStrictlySortedBy kept_cmp (map kept_row es) → find (is_asked q) (kept_rows p es) ≡ option_or (find (is_asked q) (map kept_row es)) (find (is_asked q) (packed_rows p))
  found_over q sorted =
      (λ i. find (λ r. texts_tie r q i) (kept_rows p es)) ∙ find_over kept_cmp kept_total q (map kept_row es) sorted (packed_rows p)
      ∙ (λ i. option_or (find (λ r. sym (texts_tie r q) i) (map kept_row es)) (find (λ r. sym (texts_tie r q) i) (packed_rows p)))

  pub finds_above : (q : KeptRow) (reply : KeptReply) → IsStrictlySortedBy kept_cmp (map kept_row es) → Some reply ≡ option_map kept_reply (find (is_asked q) (map kept_row es))
      → Some reply ≡ option_map kept_reply (find (is_asked q) (kept_rows p es))
  finds_above q reply sorted reported = grind (arith, found_over q sorted)

  pub finds_below : (q : KeptRow) → IsStrictlySortedBy kept_cmp (map kept_row es) → None ≡ option_map kept_reply (find (is_asked q) (map kept_row es))
      → option_map kept_reply (find (is_asked q) (packed_rows p)) ≡ option_map kept_reply (find (is_asked q) (kept_rows p es))
  finds_below q sorted none = grind (arith, found_over q sorted)

  -- rows that are split between the two are the rows of both
  pub kept_split : (rows : List KeptRow) → IsStrictlySortedBy kept_cmp rows → packed_rows p ≡ filter is_packable rows
      → map kept_row es ≡ put_all kept_cmp [] (filter (λ r. not (is_packable r)) rows) → kept_rows p es ≡ rows
  kept_split rows sorted packed others =
      (λ i. put_all kept_cmp (packed i) (others i)) ∙ split_rows kept_cmp kept_total is_packable rows sorted

  pub kept_made : (rows log : List KeptRow) → IsStrictlySortedBy kept_cmp rows → packed_rows p ≡ filter is_packable rows
      → map kept_row es ≡ put_all kept_cmp [] (filter (λ r. not (is_packable r)) rows) → log ≡ [] → (len : ℕ) → len ≡ length rows → AreJoined es → IsKept p es len log
  unfolding IsStrictlySortedBy
  kept_made rows log sorted packed others none len long joined = record {
    packed = subst (IsStrictlySortedBy kept_cmp) (sym packed) (IsStrictlySortedBy-filter kept_cmp is_packable rows sorted);
    others = subst (IsStrictlySortedBy kept_cmp) (sym others) (put_all_sorted kept_cmp kept_total (filter (λ r. not (is_packable r)) rows) [] tt);
    joined = joined;
    count = long ∙ ap length (sym (kept_split rows sorted packed others));
    logged = subst (AllByRecursion IsSmallKept) (sym none) tt;
  }

  -- a row that is put among those of the map is put into all
  pub kept_put : (more : List (String Global × KeptReply)) (row : KeptRow) → IsStrictlySortedBy kept_cmp (map kept_row es) → map kept_row more ≡ put kept_cmp (map kept_row es) row
      → kept_rows p more ≡ put kept_cmp (kept_rows p es) row
  kept_put more row sorted is = ap (put_all kept_cmp (packed_rows p)) is ∙ put_above kept_cmp kept_total row (map kept_row es) sorted (packed_rows p)

  pub kept_next : (more : List (String Global × KeptReply)) (row : KeptRow) (log : List KeptRow) (len many : ℕ) → IsKept p es len log → map kept_row more ≡ put kept_cmp (map kept_row es) row
      → IsSmallKept row → many ≡ len + cond (is_some (find (is_asked row) (kept_rows p es))) 0 1 → AreJoined more → IsKept p more many (log ++ row ∷ [])
  kept_next more row log len many kept is small long joined = record {
    packed = kept.packed;
    others = subst (IsStrictlySortedBy kept_cmp) (sym is) (put_sorted kept_cmp kept_total row (map kept_row es) kept.others);
    joined = joined;
    count =
        long ∙ ap (λ n. n + cond (is_some (find (is_asked row) (kept_rows p es))) 0 1) kept.count
        ∙ (λ i. length (kept_rows p es) + cond (is_some (find (λ r. texts_tie r row i) (kept_rows p es))) 0 1)
        ∙ sym (length_put_is kept_cmp kept_total row (kept_rows p es) (put_all_sorted kept_cmp kept_total (map kept_row es) (packed_rows p) kept.packed))
        ∙ ap length (sym (kept_put more row kept.others is));
    logged = all_push IsSmallKept log row kept.logged small;
  }
