-- How a router's rows find a path with a parameter, last or in the middle.
use Rattle.std.proofs.Common.{◌≡◌, ℕ, ◌-◌, List, [], ◌∷◌, ◌++◌, length, drop, Bool, true, false, cond, refl, sym, ap, ◌∙◌, arith, suc, zero, nat_eq, nat_lt}
use Rattle.std.proofs.Common.{◌&&◌}
use Rattle.std.specs.Prelude.{Some, None}
use Rattle.std.specs.Cmp.Lexicographic.{bytes_decides, pointwise}
use Rattle.matchit.specs.Rows.{RowsOf}
use Rattle.std.specs.List.{ends_with}
use Rattle.matchit.specs.Seek.{seek, step, own, or_else, param_step, segment, has_slash, cuts, longest_suffix, with_suffix}
use Rattle.std.proofs.Math.Seq.{drop-append_seam}
use Rattle.std.proofs.lemmas.Bool.{and_parts}
use Rattle.std.proofs.lemmas.Bool.Decides.{nat_tests}
use mathlib.Core.Bool.{true≢false}

-- the rows that go on after a word
abbrev pub steps : {K : Type 0} → List ℕ → RowsOf K → RowsOf K
steps [] rs = rs
steps (x ∷ w) rs = steps w (step x rs)

pub seek_word : {K : Type 0} (w : List ℕ) (rs : RowsOf K) (p : List ℕ) (r : K) → seek 0 (steps w rs) p ≡ Some r → seek 0 rs (w ++ p) ≡ Some r
unfolding seek
seek_word [] rs p r h = h
seek_word (x ∷ w) rs p r h =
    ap (λ o. or_else o (or_else (seek ((param_step (step 256 rs) (x ∷ (w ++ p))).0 - 1) (param_step (step 256 rs) (x ∷ (w ++ p))).1 (w ++ p)) (own (step 257 rs)))) (seek_word w (step x rs) p r h)

param_none : {K : Type 0} (p : List ℕ) → (param_step {K = K} [] p).1 ≡ []
unfolding param_step
param_none {K = K} p = elim (has_slash p) as (λ v. (cond {A = ℕ × RowsOf K} v (0, []) (length p, [])).1 ≡ []) [ true ↦ refl | false ↦ refl ]

seek_none : {K : Type 0} (k : ℕ) (p : List ℕ) → seek {K = K} k [] p ≡ None
unfolding seek
seek_none k [] = refl
seek_none (suc k) (b ∷ p) = seek_none k p
seek_none {K = K} zero (b ∷ p) = simp (seek_none {K = K} 0 p, param_none {K = K} (b ∷ p), seek_none {K = K} (((param_step {K = K} [] (b ∷ p)).0) - 1) p)

seek_all : {K : Type 0} (rs : RowsOf K) (p : List ℕ) → seek (length p) rs p ≡ own rs
unfolding seek
seek_all rs [] = refl
seek_all rs (b ∷ p) = seek_all rs p

slash_behind : (k : ℕ) (p : List ℕ) → drop k p ≡ 47 ∷ [] → has_slash p ≡ true
slash_behind zero [] e = cc
slash_behind (suc k) [] e = cc
slash_behind zero (b ∷ p) e = let same : b ≡ 47 = cc in rw same refl
slash_behind (suc k) (b ∷ p) e = cond_true (nat_eq b 47) (slash_behind k p e)
  where
    cond_true : (t : Bool) {u : Bool} → u ≡ true → cond t true u ≡ true
    cond_true true h = refl
    cond_true false h = h

pub no_cut : (p : List ℕ) → has_slash p ≡ false → cuts p (47 ∷ []) ≡ false
no_cut p none = by (cuts p (47 ∷ [])) refl
  where
    by : (t : Bool) → cuts p (47 ∷ []) ≡ t → t ≡ false
    by false e = refl
    by true e = absurd (true≢false (sym (slash_behind (length p - 1) p (sym ((bytes_decides (47 ∷ []) (drop (length p - 1) p)).0 (and_parts (nat_lt 1 (length p)) _ e).1))) ∙ none))

less_one : (n : ℕ) → suc n - 1 ≡ n
less_one n = omega arith

param_whole : {K : Type 0} (ps : RowsOf K) (p : List ℕ) → longest_suffix (segment p) ps ≡ [] → has_slash p ≡ false → param_step ps p ≡ (length p, ps)
unfolding param_step
param_whole ps p e f =
    ap (λ (l : List ℕ). cond (nat_lt 0 (length l)) (length (segment p) - length l, with_suffix l ps) (cond (has_slash p) (0, []) (length p, ps))) e
    ∙ ap (λ t. cond t (0, []) (length p, ps)) f

-- a parameter that takes the rest
pub last_param : {K : Type 0} (rs : RowsOf K) (b : ℕ) (s : List ℕ) (r : K) → step b rs ≡ [] → longest_suffix (segment (b ∷ s)) (step 256 rs) ≡ [] → has_slash (b ∷ s) ≡ false
    → own (step 256 rs) ≡ Some r → seek 0 rs (b ∷ s) ≡ Some r
unfolding seek
last_param {K = K} rs b s r none short whole own_is =
    let first : seek 0 (step b rs) s ≡ None = ap (λ l. seek 0 l s) none ∙ seek_none {K = K} 0 s in
    let taken : param_step (step 256 rs) (b ∷ s) ≡ (suc (length s), step 256 rs) = param_whole (step 256 rs) (b ∷ s) short whole in
    let after : seek ((param_step (step 256 rs) (b ∷ s)).0 - 1) (param_step (step 256 rs) (b ∷ s)).1 s ≡ Some r =
    ap (λ (t : ℕ × RowsOf K). seek (t.0 - 1) t.1 s) taken ∙ ap (λ n. seek n (step 256 rs) s) (less_one (length s)) ∙ seek_all (step 256 rs) s ∙ own_is in
    ap (λ o. or_else o (or_else (seek ((param_step (step 256 rs) (b ∷ s)).0 - 1) (param_step (step 256 rs) (b ∷ s)).1 s) (own (step 257 rs)))) first
    ∙ ap (λ o. or_else o (own (step 257 rs))) after

pub whole_segment : (p : List ℕ) → has_slash p ≡ false → segment p ≡ p
whole_segment [] e = refl
whole_segment (b ∷ p) e = by (nat_eq b 47) (λ h. whole_segment p h) e
  where
    by : (t : Bool) → (has_slash p ≡ false → segment p ≡ p) → cond t true (has_slash p) ≡ false → cond t (b ∷ []) (b ∷ segment p) ≡ b ∷ p
    by true f h = cc
    by false f h = ap (λ l. b ∷ l) (f h)

-- a segment that a slash ends
pub cut_segment : (p rest : List ℕ) → has_slash p ≡ false → segment (p ++ (47 ∷ rest)) ≡ p ++ (47 ∷ [])
cut_segment [] rest e = refl
cut_segment (b ∷ p) rest e = by (nat_eq b 47) (λ h. cut_segment p rest h) e
  where
    by : (t : Bool) → (has_slash p ≡ false → segment (p ++ (47 ∷ rest)) ≡ p ++ (47 ∷ [])) → cond t true (has_slash p) ≡ false → cond t (b ∷ []) (b ∷ segment (p ++ (47 ∷ rest))) ≡ b ∷ (p ++ (47 ∷ []))
    by true f h = cc
    by false f h = ap (λ l. b ∷ l) (f h)

one_longer : (p : List ℕ) → length (p ++ (47 ∷ [])) ≡ suc (length p)
one_longer [] = refl
one_longer (b ∷ p) = ap suc (one_longer p)

two_more : (n : ℕ) → nat_lt 1 (suc (suc n)) ≡ true
two_more n = grind (arith, nat_tests)

-- a slash at its end is cut from a segment that has more
pub slash_cut : (b : ℕ) (s : List ℕ) → cuts ((b ∷ s) ++ (47 ∷ [])) (47 ∷ []) ≡ true
slash_cut b s =
    let long : nat_lt 1 (length ((b ∷ s) ++ (47 ∷ []))) ≡ true = ap (λ n. nat_lt 1 (suc n)) (one_longer s) ∙ two_more (length s) in
    let back : drop (length ((b ∷ s) ++ (47 ∷ [])) - 1) ((b ∷ s) ++ (47 ∷ [])) ≡ 47 ∷ [] =
    ap (λ n. drop (n - 1) ((b ∷ s) ++ (47 ∷ []))) (one_longer (b ∷ s)) ∙ ap (λ n. drop n ((b ∷ s) ++ (47 ∷ []))) (less_one (suc (length s))) ∙ drop-append_seam (b ∷ s) (47 ∷ []) in
    ap (λ t. t && ends_with nat_eq ((b ∷ s) ++ (47 ∷ [])) (47 ∷ [])) long ∙ ap (λ l. pointwise nat_eq (47 ∷ []) l) back

-- a parameter that a slash ends
param_cut : {K : Type 0} (ps : RowsOf K) (p rest : List ℕ) → longest_suffix (segment (p ++ (47 ∷ rest))) ps ≡ 47 ∷ [] → has_slash p ≡ false
    → param_step ps (p ++ (47 ∷ rest)) ≡ (length p, with_suffix (47 ∷ []) ps)
unfolding param_step
param_cut ps p rest e f =
    ap (λ (l : List ℕ). cond (nat_lt 0 (length l)) (length (segment (p ++ (47 ∷ rest))) - length l, with_suffix l ps) (cond (has_slash (p ++ (47 ∷ rest))) (0, []) (length (p ++ (47 ∷ rest)), ps))) e
    ∙ ap (λ (l : List ℕ). (length l - 1, with_suffix (47 ∷ []) ps)) (cut_segment p rest f)
    ∙ ap (λ (n : ℕ). (n - 1, with_suffix (47 ∷ []) ps)) (one_longer p)
    ∙ ap (λ (n : ℕ). (n, with_suffix (47 ∷ []) ps)) (less_one (length p))

seek_behind : {K : Type 0} (rs : RowsOf K) (s p : List ℕ) → seek (length s) rs (s ++ p) ≡ seek 0 rs p
unfolding seek
seek_behind rs [] p = refl
seek_behind rs (b ∷ s) p = seek_behind rs s p

-- a parameter with a slash behind it
pub middle_param : {K : Type 0} (rs : RowsOf K) (b : ℕ) (s rest : List ℕ) (r : K) → step b rs ≡ [] → longest_suffix (segment ((b ∷ s) ++ (47 ∷ rest))) (step 256 rs) ≡ 47 ∷ [] → has_slash (b ∷ s) ≡ false
    → seek 0 (with_suffix (47 ∷ []) (step 256 rs)) (47 ∷ rest) ≡ Some r → seek 0 rs ((b ∷ s) ++ (47 ∷ rest)) ≡ Some r
unfolding seek
middle_param {K = K} rs b s rest r none short whole found =
    let first : seek 0 (step b rs) (s ++ (47 ∷ rest)) ≡ None = ap (λ l. seek 0 l (s ++ (47 ∷ rest))) none ∙ seek_none {K = K} 0 (s ++ (47 ∷ rest)) in
    let taken : param_step (step 256 rs) (b ∷ (s ++ (47 ∷ rest))) ≡ (suc (length s), with_suffix (47 ∷ []) (step 256 rs)) = param_cut (step 256 rs) (b ∷ s) rest short whole in
    let after : seek ((param_step (step 256 rs) (b ∷ (s ++ (47 ∷ rest)))).0 - 1) (param_step (step 256 rs) (b ∷ (s ++ (47 ∷ rest)))).1 (s ++ (47 ∷ rest)) ≡ Some r =
    ap (λ (t : ℕ × RowsOf K). seek (t.0 - 1) t.1 (s ++ (47 ∷ rest))) taken ∙ ap (λ n. seek n (with_suffix (47 ∷ []) (step 256 rs)) (s ++ (47 ∷ rest))) (less_one (length s))
    ∙ seek_behind (with_suffix (47 ∷ []) (step 256 rs)) s (47 ∷ rest) ∙ found in
    ap (λ o. or_else o (or_else (seek ((param_step (step 256 rs) (b ∷ (s ++ (47 ∷ rest)))).0 - 1) (param_step (step 256 rs) (b ∷ (s ++ (47 ∷ rest)))).1 (s ++ (47 ∷ rest))) (own (step 257 rs)))) first
    ∙ ap (λ o. or_else o (own (step 257 rs))) after

-- a word ends where its rows have a route of their own
pub seek_end : {K : Type 0} (w : List ℕ) (rs : RowsOf K) (r : K) → own (steps w rs) ≡ Some r → seek 0 rs w ≡ Some r
unfolding seek
seek_end [] rs r e = e
seek_end (x ∷ w) rs r e =
    ap (λ o. or_else o (or_else (seek ((param_step (step 256 rs) (x ∷ w)).0 - 1) (param_step (step 256 rs) (x ∷ w)).1 w) (own (step 257 rs)))) (seek_end w (step x rs) r e)
