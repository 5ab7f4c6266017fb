-- The text under which a reply stands in the map: its caller, a space, its key. A space stands below
-- each byte of a name, so these texts stand in the order of callers and then keys.
use Rattle.std.proofs.Common.{[], ◌≡◌, ◌∙◌, ◌<◌, ◌+◌, ◌&&◌, ◌==◌, ℕ, suc, List, ◌∷◌, map, length, take, drop, Bool, true, false, IsTrue, nat_le}
use Rattle.std.proofs.Common.{refl, sym, ap, subst, arith}
use Rattle.std.specs.Prelude.{option_map}
use Rattle.farm_core.proofs.Names.{AllByRecursion, bytes_eq, Equal, find, Global, Greater, is_eq, Less, list_all, nat_cmp, nat_tests}
use Rattle.farm_core.proofs.Names.{Ordering, ordering_then, same_names, string_bytes}
use Rattle.std.specs.Map.{lookup}
use Rattle.std.specs.BTreeMap.{insert_entry}
use Rattle.std.specs.String.{string_cmp}
use Rattle.std.specs.declared.string.String.{String}
use Rattle.std.proofs.lemmas.Slice.Eq.{bytes_eq-Decides}
use Rattle.farm_types.specs.Names.{is_name_byte, is_word, IsName, kept_cmp, longest_name, put, text_cmp}
use Rattle.farm_sound.proofs.Grow.{same_texts}
use Rattle.farm_core.specs.Replies.{IsJoined, joined_caller, joined, joined_key, kept_reply, kept_row}
use Rattle.farm_core.specs.declared.kept.KeptReply.{KeptReply}

both_true : (a b : Bool) → IsTrue (a && b) → IsTrue a × IsTrue b
both_true true b is = (refl, is)
both_true false b is = cc

-- a name has only bytes of names
pub name_bytes : (text : List ℕ) → IsName text → IsTrue (list_all is_name_byte text)
unfolding is_word
name_bytes text name = (both_true (nat_le 1 (length text) && nat_le (length text) longest_name) (list_all is_name_byte text) name).1

-- each of them above a space
above_space : (c : ℕ) → IsTrue (is_name_byte c) → 32 < c
above_space c is = grind (arith, nat_tests)

no_space : (c : ℕ) → 32 < c → (c == 32) ≡ false
no_space c low = grind (arith, nat_tests)

-- ---- the two texts are found again

take_more : (n c : ℕ) (rest : List ℕ) → take (1 + n) (c ∷ rest) ≡ c ∷ take n rest
take_more n c rest = let more : 1 + n ≡ suc n = omega arith in ap (λ m. take m (c ∷ rest)) more

drop_more : (n c : ℕ) (rest : List ℕ) → drop (suc n + 1) (c ∷ rest) ≡ drop (n + 1) rest
drop_more n c rest = let more : suc n + 1 ≡ suc (n + 1) = omega arith in ap (λ m. drop m (c ∷ rest)) more

pub caller_joined : (caller key : List ℕ) → IsTrue (list_all is_name_byte caller) → joined_caller (joined caller key) ≡ caller
caller_joined [] key all = refl
caller_joined (c ∷ caller) key all =
    let both = both_true (is_name_byte c) (list_all is_name_byte caller) all in
    rw (no_space c (above_space c both.0)) (take_more _ c (joined caller key) ∙ ap (λ rest. c ∷ rest) (caller_joined caller key both.1))

behind_space : (caller key : List ℕ) → drop (length caller + 1) (joined caller key) ≡ key
behind_space [] key = refl
behind_space (c ∷ caller) key = drop_more (length caller) c (joined caller key) ∙ behind_space caller key

pub key_joined : (caller key : List ℕ) → IsTrue (list_all is_name_byte caller) → joined_key (joined caller key) ≡ key
key_joined caller key all = ap (λ c. drop (length c + 1) (joined caller key)) (caller_joined caller key all) ∙ behind_space caller key

pub is_joined : (caller key : List ℕ) → IsName caller → IsJoined (joined caller key)
is_joined caller key name =
    let all = name_bytes caller name in
    record {
      caller = subst (λ (c : List ℕ). IsTrue (list_all is_name_byte c)) (sym (caller_joined caller key all)) all;
      is = λ i. joined (sym (caller_joined caller key all) i) (sym (key_joined caller key all) i);
    }

-- ---- their order

assoc : (a b c : Ordering) → ordering_then a (ordering_then b c) ≡ ordering_then (ordering_then a b) c
assoc Less b c = refl
assoc Equal b c = refl
assoc Greater b c = refl

joined_cmp : (a b c d : List ℕ) → IsTrue (list_all is_name_byte a) → IsTrue (list_all is_name_byte c) → text_cmp (joined a b) (joined c d) ≡ ordering_then (text_cmp a c) (text_cmp b d)
joined_cmp [] b [] d all other = refl
joined_cmp [] b (y ∷ c) d all other =
    let low = above_space y (both_true (is_name_byte y) (list_all is_name_byte c) other).0 in
    let less : nat_cmp 32 y ≡ Less = grind (arith, nat_tests) in
    rw less
joined_cmp (x ∷ a) b [] d all other =
    let low = above_space x (both_true (is_name_byte x) (list_all is_name_byte a) all).0 in
    let more : nat_cmp x 32 ≡ Greater = grind (arith, nat_tests) in
    rw more
joined_cmp (x ∷ a) b (y ∷ c) d all other =
    ap (ordering_then (nat_cmp x y)) (joined_cmp a b c d (both_true (is_name_byte x) (list_all is_name_byte a) all).1 (both_true (is_name_byte y) (list_all is_name_byte c) other).1)
    ∙ assoc (nat_cmp x y) (text_cmp a c) (text_cmp b d)

-- joined texts stand in the order of their rows
pub rows_cmp : (e f : String Global × KeptReply) → IsJoined (string_bytes e.0) → IsJoined (string_bytes f.0) → string_cmp e.0 f.0 ≡ kept_cmp (kept_row e) (kept_row f)
rows_cmp e f one other =
    (λ i. text_cmp (one.is i) (other.is i))
    ∙ joined_cmp (joined_caller (string_bytes e.0)) (joined_key (string_bytes e.0)) (joined_caller (string_bytes f.0)) (joined_key (string_bytes f.0)) one.caller other.caller

-- ---- the map

pub All-insert_entry : (P : String Global → Type 0) (k : String Global) (v : KeptReply) (es : List (String Global × KeptReply)) → P k → AllByRecursion (λ e. P e.0) es
    → AllByRecursion (λ e. P e.0) (insert_entry string_cmp es k v)
All-insert_entry P k v [] here all = (here, tt)
All-insert_entry P k v (e ∷ es) here all = grind (arith, All-insert_entry P k v es here all.1)

-- an entry is inserted where its row is put
pub rows_insert : (k : String Global) (v : KeptReply) (es : List (String Global × KeptReply)) → IsJoined (string_bytes k) → AllByRecursion (λ e. IsJoined (string_bytes e.0)) es
    → map kept_row (insert_entry string_cmp es k v) ≡ put kept_cmp (map kept_row es) (kept_row (k, v))
rows_insert k v [] here all = refl
rows_insert k v (e ∷ es) here all = grind (arith, rows_insert k v es here all.1, rows_cmp (k, v) e here all.0, same_texts (string_bytes k) (string_bytes e.0))

-- the query's texts are the row's where the keys tie
same_test : (a b c d : List ℕ) → is_eq (ordering_then (text_cmp a c) (text_cmp b d)) ≡ (bytes_eq c a && bytes_eq d b)
same_test a b c d =
    by (text_cmp a c) (text_cmp b d) ∙ ap (λ v. v && is_eq (text_cmp b d)) (turned a c) ∙ ap (λ v. bytes_eq c a && v) (turned b d)
  where
    by : (o p : Ordering) → is_eq (ordering_then o p) ≡ (is_eq o && is_eq p)
    by Less p = refl
    by Equal p = refl
    by Greater p = refl

    agree : (xs ys : List ℕ) (v w : Bool) → bytes_eq xs ys ≡ v → bytes_eq ys xs ≡ w → v ≡ w
    agree xs ys true w is there = sym ((bytes_eq-Decides ys xs).1 (sym ((bytes_eq-Decides xs ys).0 is))) ∙ there
    agree xs ys false true is there = sym is ∙ (bytes_eq-Decides xs ys).1 (sym ((bytes_eq-Decides ys xs).0 there))
    agree xs ys false false is there = refl

    turned : (xs ys : List ℕ) → is_eq (text_cmp xs ys) ≡ bytes_eq ys xs
    turned xs ys = sym (same_names xs ys) ∙ agree xs ys (bytes_eq xs ys) (bytes_eq ys xs) refl refl

-- the value that is found is that of the row that is found
pub rows_find : (caller key : List ℕ) → IsName caller → (es : List (String Global × KeptReply)) → AllByRecursion (λ e. IsJoined (string_bytes e.0)) es
    → lookup (λ l. is_eq (text_cmp (joined caller key) (string_bytes l))) es ≡ option_map kept_reply (find (λ r. bytes_eq r.caller caller && bytes_eq r.key key) (map kept_row es))
rows_find caller key name [] all = refl
rows_find caller key name (e ∷ es) all = grind (arith, rows_find caller key name es all.1, is_eq, bytes_eq, joined_cmp, name_bytes, same_test)
