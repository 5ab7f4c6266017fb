-- Packed entries and their rows.
use Rattle.std.proofs.Common.{[], ◌≡◌, ◌∙◌, ◌+◌, ◌≤◌, ◌++◌, ◌&&◌, ℕ, List, ◌∷◌, map, length, take, drop, get_or, Bool, Some, None, refl, sym}
use Rattle.std.proofs.Common.{ap, arith, length-append, length-drop, Result, Ok, Err, MatchResult}
use Rattle.std.specs.Prelude.{option_map}
use Rattle.farm_core.proofs.Names.{AllByRecursion, bytes_eq, find, is_eq, IsStrictlySortedBy, kept_total, KeptRow, Less, Ordering}
use Rattle.farm_core.proofs.Names.{same_names}
use Rattle.std.specs.List.Sorted.{IsBinarySearchResult, IsSearchInRange}
use Rattle.std.proofs.lemmas.List.{take-append-le, take_all, drop-append-le, map-append}
use Rattle.farm_types.specs.Names.{kept_cmp, text_cmp}
use Rattle.farm_types.proofs.Searched.{found_at}
use Rattle.farm_table.proofs.Steps.{all_push}
use Rattle.farm_core.specs.Replies.{LiesIn, entry_row}
use Rattle.farm_core.specs.declared.kept.packed.Entry.{Entry}

-- ---- texts that grow

part_stays : (texts more : List ℕ) (from n : ℕ) → from + n ≤ length texts → take n (drop from (texts ++ more)) ≡ take n (drop from texts)
part_stays texts more from n low =
    ap (take n) (drop-append-le from texts more (omega arith)) ∙ take-append-le n (drop from texts) more (omega (arith, length-drop from texts))

row_stays : (texts more : List ℕ) (e : Entry) → LiesIn texts e → entry_row (texts ++ more) e ≡ entry_row texts e
row_stays texts more e lies =
    let caller = part_stays texts more e.start e.caller (omega (arith, lies)) in
    let key = part_stays texts more (e.start + e.caller) e.key lies in
    λ i. record { caller = caller i; key = key i; kind = e.kind; reply = record { 0 = e.first; 1 = e.second; 2 = e.third } }

pub rows_stay : (texts more : List ℕ) (es : List Entry) → AllByRecursion (LiesIn texts) es → map (entry_row (texts ++ more)) es ≡ map (entry_row texts) es
rows_stay texts more [] lie = refl
rows_stay texts more (e ∷ es) lie = λ i. row_stays texts more e lie.0 i ∷ rows_stay texts more es lie.1 i

pub lie_still : (texts more : List ℕ) (es : List Entry) → AllByRecursion (LiesIn texts) es → AllByRecursion (LiesIn (texts ++ more)) es
lie_still texts more [] lie = tt
lie_still texts more (e ∷ es) lie = (omega (arith, lie.0, length-append texts more), lie_still texts more es lie.1)

-- what stands behind a text
behind : (a b : List ℕ) → drop (length a) (a ++ b) ≡ b
behind a b = drop-append-le (length a) a b (omega arith) ∙ ap (λ s. s ++ b) (none a)
  where
    none : (a : List ℕ) → drop (length a) a ≡ []
    none [] = refl
    none (x ∷ a) = none a

-- the two texts of a row, behind the others
pub caller_at : (texts caller key : List ℕ) → take (length caller) (drop (length texts) ((texts ++ caller) ++ key)) ≡ caller
caller_at texts caller key =
    part_stays (texts ++ caller) key (length texts) (length caller) (omega (arith, length-append texts caller))
    ∙ ap (take (length caller)) (behind texts caller) ∙ take_all (length caller) caller (omega arith)

pub key_at : (texts caller key : List ℕ) → take (length key) (drop (length texts + length caller) ((texts ++ caller) ++ key)) ≡ key
key_at texts caller key =
    ap (λ n. take (length key) (drop n ((texts ++ caller) ++ key))) (sym (length-append texts caller))
    ∙ ap (take (length key)) (behind (texts ++ caller) key) ∙ take_all (length key) key (omega arith)

-- ---- a search among entries

pub find_map : {E R : Type 0} (f : E → R) (test : R → Bool) (es : List E) → find test (map f es) ≡ option_map f (find (λ e. test (f e)) es)
find_map f test [] = refl
find_map f test (e ∷ es) = grind (arith, find_map f test es)

All-map : {E R : Type 0} (f : E → R) (P : R → Type 0) (es : List E) → AllByRecursion P (map f es) → AllByRecursion (λ e. P (f e)) es
All-map f P [] all = tt
All-map f P (e ∷ es) all = (all.0, All-map f P es all.1)

pub sorted_entries : {E R : Type 0} (f : E → R) (cmp : R → R → Ordering) (es : List E) → IsStrictlySortedBy cmp (map f es) → IsStrictlySortedBy (λ a b. cmp (f a) (f b)) es
unfolding IsStrictlySortedBy
sorted_entries f cmp [] sorted = tt
sorted_entries f cmp (e ∷ es) sorted = (All-map f (λ y. cmp (f e) y ≡ Less) es sorted.0, sorted_entries f cmp es sorted.1)

-- a row with the texts of another
abbrev pub is_asked : KeptRow → KeptRow → Bool
is_asked q r = bytes_eq r.caller q.caller && bytes_eq r.key q.key

-- the texts are the same where the keys tie
pub texts_tie : (r q : KeptRow) → is_asked q r ≡ is_eq (kept_cmp r q)
texts_tie r q = grind (arith, bytes_eq r.key q.key, same_names r.caller q.caller, is_eq (text_cmp r.caller q.caller), same_names r.key q.key)

-- ---- one entry more

-- a row, as an entry behind the others has it
pub row_at : (texts caller key : List ℕ) (row : KeptRow) (e : Entry) → caller ≡ row.caller → key ≡ row.key
    → e.start ≡ length texts → e.caller ≡ length caller → e.key ≡ length key → e.kind ≡ row.kind → e.first ≡ row.reply.0 → e.second ≡ row.reply.1 → e.third ≡ row.reply.2
    → entry_row ((texts ++ caller) ++ key) e ≡ row
row_at texts caller key row e its_caller its_key start long_caller long_key kind first second third =
    let all = (texts ++ caller) ++ key in
    λ i. record {
      caller = (ap (λ n. take n (drop e.start all)) long_caller ∙ ap (λ n. take (length caller) (drop n all)) start ∙ caller_at texts caller key ∙ its_caller) i;
      key =
          (ap (λ n. take n (drop (e.start + e.caller) all)) long_key ∙ ap (λ n. take (length key) (drop (n + e.caller) all)) start
          ∙ ap (λ n. take (length key) (drop (length texts + n) all)) long_caller ∙ key_at texts caller key ∙ its_key) i;
      kind = kind i;
      reply = record { 0 = first i; 1 = second i; 2 = third i };
    }

pub rows_push : (texts some all caller key : List ℕ) (es more : List Entry) (row : KeptRow) (e : Entry) → some ≡ texts ++ caller → all ≡ some ++ key → more ≡ es ++ e ∷ []
    → AllByRecursion (LiesIn texts) es → entry_row ((texts ++ caller) ++ key) e ≡ row → map (entry_row all) more ≡ map (entry_row texts) es ++ row ∷ []
rows_push texts some all caller key es more row e first second pushed lie here = grind (arith, map-append (entry_row ((texts ++ caller) ++ key)) es (e ∷ []), rows_stay (texts ++ caller) key es (lie_still texts caller es lie), lie_still texts caller es lie, rows_stay texts caller es lie)

pub lie_push : (texts some all caller key : List ℕ) (es more : List Entry) (e : Entry) → some ≡ texts ++ caller → all ≡ some ++ key → more ≡ es ++ e ∷ []
    → e.start ≡ length texts → e.caller ≡ length caller → e.key ≡ length key → AllByRecursion (LiesIn texts) es → AllByRecursion (LiesIn all) more
lie_push texts some all caller key es more e first second pushed start long_caller long_key lie =
    let grown : all ≡ (texts ++ caller) ++ key = second ∙ ap (λ s. s ++ key) first in
    rw (grown, pushed) (all_push (LiesIn ((texts ++ caller) ++ key)) es e (lie_still (texts ++ caller) key es (lie_still texts caller es lie))
    (omega (arith, length-append texts caller, length-append (texts ++ caller) key)))

-- under strict order a binary search among entries finds the row of a caller and a key
pub found_entry : (texts : List ℕ) (es : List Entry) (q : KeptRow) → IsStrictlySortedBy kept_cmp (map (entry_row texts) es) → (found : Result ℕ ℕ)
    → IsSearchInRange found (length es) → IsBinarySearchResult (λ e. kept_cmp (entry_row texts e) q) es found
    → MatchResult found (λ i. (d : Entry) → find (is_asked q) (map (entry_row texts) es) ≡ Some (entry_row texts (get_or es i d)))
    (λ i. find (is_asked q) (map (entry_row texts) es) ≡ None)
found_entry texts es q sorted found within searched =
    by found (found_at row kept_cmp kept_total (λ a b. is_asked b a) texts_tie q es (sorted_entries row kept_cmp es sorted) found within searched)
  where
    row : Entry → KeptRow
    row = entry_row texts

    by : (found : Result ℕ ℕ) → MatchResult found (λ i. (d : Entry) → find (λ e. is_asked q (row e)) es ≡ Some (get_or es i d)) (λ i. find (λ e. is_asked q (row e)) es ≡ None)
        → MatchResult found (λ i. (d : Entry) → find (is_asked q) (map row es) ≡ Some (row (get_or es i d))) (λ i. find (is_asked q) (map row es) ≡ None)
    by (Ok i) h = λ d. find_map row (is_asked q) es ∙ ap (option_map row) (h d)
    by (Err i) h = find_map row (is_asked q) es ∙ ap (option_map row) h
