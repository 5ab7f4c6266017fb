-- What a query of a table answers: the rows of the table, in their order.
use Rattle.std.proofs.Common.{refl, ◌≡◌, ◌≢◌, inl, inr, ℕ, List, [], ◌∷◌, map, sym, ap, subst, ◌∙◌, ◌≤◌, Ordering, Less, Equal, ◌++◌, flat_map, Ok}
use Rattle.farm_store.proofs.Names.{all_has, AllByRecursion, command_of, Database, Differ, Has, has_mapped, IsAnswer, IsAscending, IsPermutation}
use Rattle.farm_store.proofs.Names.{IsPermutation-sym, IsSorted, IsStrict, IsTotalOrder, IsWide, ListsRows, mapped_has, Output, output, output_cmp, overlay}
use Rattle.farm_store.proofs.Names.{page, Query, Reads, ReadsFirst, ReturnsFirstRows, ReturnsRows, Row, Select, sum_by-IsPermutation}
use Rattle.farm_store.proofs.Sorted.{tie_same}
use Rattle.farm_store.proofs.Order.{permuted, tied, at_most_one, strictly, same_rows}
use Rattle.sqlite.specs.Listing.{understood}
use Rattle.sqlite_resolve.specs.declared.compiled.Compiled.{Compiled}
use Rattle.sqlite_sql.proofs.QueryLemmas.{output_cmp_total}
use Rattle.sqlite.specs.Schema.{Schema}

module _ {O : Type 0} {cmp : Row → Row → Ordering} (total : IsTotalOrder cmp) {c : O → O → Ordering} (totally : IsTotalOrder c) (show : Row → Row) (width : ℕ) (P Q : Row → O)
    (shows : (raw : Row) → P raw ≡ Q (show raw)) (keeps : (a b : Row) → c (Q a) (Q b) ≡ cmp a b) where
  all_strict : (a : Row) (rows : List Row) → AllByRecursion (λ b. cmp a b ≡ Less) rows → AllByRecursion (λ q. c (Q a) q ≡ Less) (map Q rows)
  all_strict a [] all = tt
  all_strict a (b ∷ rows) all = (keeps a b ∙ all.0, all_strict a rows all.1)

  map_strict : (rows : List Row) → IsStrict cmp rows → IsStrict c (map Q rows)
  map_strict [] up = tt
  map_strict (a ∷ rows) up = (all_strict a rows up.0, map_strict rows up.1)

  all_mapped : (R : O → Type 0) (raws : List Row) → ((r : Row) → Has raws r → R (P r)) → AllByRecursion R (map P raws)
  all_mapped R [] f = tt
  all_mapped R (r ∷ raws) f = (f r (inl refl), all_mapped R raws (λ s h. f s (inr h)))

  -- no two rows show one key
  shown_apart : (raws : List Row) → IsAscending (Differ show) raws → ((a b : Row) → Has raws a → Has raws b → c (P a) (P b) ≡ Equal → show a ≡ show b) → IsAscending (λ x y. c x y ≢ Equal) (map P raws)
  shown_apart [] up same = tt
  shown_apart (r ∷ raws) up same = (
    all_mapped (λ q. c (P r) q ≢ Equal) raws (λ s h tie. all_has (Differ show r) raws s up.0 h (same r s (inl refl) (inr h) tie)),
    shown_apart raws up.1 (λ a b h k. same a b (inr h) (inr k)),
  )

  pub answers : (raws rows : List Row) (ordered : List O) → ListsRows cmp show width raws rows → IsPermutation (map P raws) ordered → IsSorted c ordered → ordered ≡ map Q rows
  answers raws rows ordered it same sorted =
      let apart = shown_apart raws it.apart (λ a b h k tie.
      let e : cmp (show a) (show b) ≡ Equal = sym (keeps (show a) (show b)) ∙ ap (λ q. c q (Q (show b))) (sym (shows a)) ∙ ap (c (P a)) (sym (shows b)) ∙ tie in
      tie_same total rows (show a) (show b) it.strict (it.complete a h) (it.complete b k) e) in
      same_rows totally ordered (map Q rows)
      (strictly totally ordered sorted (λ q. subst (λ n. n ≤ 1) (sym (sum_by-IsPermutation (tied totally q) (map P raws) ordered same)) (at_most_one totally q (map P raws) apart)))
      (map_strict rows it.strict)
      (λ q h.
      let m = has_mapped P raws q (permuted (map P raws) ordered same q h) in
      subst (Has (map Q rows)) (sym (m.2 ∙ shows m.0)) (mapped_has Q rows (show m.0) (it.complete m.0 m.1)))
      (λ q h.
      let m = has_mapped Q rows q h in
      let raw = it.sound m.0 m.1 in
      permuted ordered (map P raws) (IsPermutation-sym (map P raws) ordered same) q (subst (Has (map P raws)) (shows raw.0 ∙ ap Q raw.2 ∙ sym m.2) (mapped_has P raws raw.0 raw.1)))

-- the text is this query of such tables
abbrev pub IsQuery : Schema → List ℕ → Query → List (List ℕ) → Type 0
IsQuery schema text query names = command_of (understood schema text) ≡ Select (record { lets = []; body = query }) names

module _ {schema : Schema} (text : List ℕ) (query : Query) (names : List (List ℕ)) (is : IsQuery schema text query names) (db : Database) (ours : db.schema ≡ schema) where
  runs : (c : Compiled) → understood db.schema text ≡ Ok c → c.command ≡ Select (record { lets = []; body = query }) names
  runs c known = ap command_of (sym known ∙ ap (λ s. understood s text) ours) ∙ is

  -- what it shows is an answer
  pub answer_of : (rows : List Row) → ReturnsRows text db rows → IsAnswer query (overlay db.trees []) [] rows
  answer_of rows it = (subst (λ k. Reads k db [] rows) (runs it.query it.is) it.reads).answer Rattle.sqlite.specs.declared.types.Value.TheVariants.Null

  -- and what it shows first goes on to one
  pub goes_on : (rows : List Row) → ReturnsFirstRows text db rows → (more : List Row) × ReturnsRows text db (rows ++ more)
  goes_on rows it =
      let first = subst (λ k. ReadsFirst k db [] rows) (runs it.query it.is) it.reads in
      let more = first.1.0 in
      let whole : Reads (Select (record { lets = []; body = query }) names) db [] (rows ++ more) = record { typed = first.0; answer = first.1.1 } in
      (more, record { query = it.query; is = it.is; reads = subst (λ k. Reads k db [] (rows ++ more)) (sym (runs it.query it.is)) whole })

module _ {cmp : Row → Row → Ordering} (total : IsTotalOrder cmp) (show : Row → Row) (width : ℕ) (query : Query) (P Q : Row → Output) (shows : (raw : Row) → P raw ≡ Q (show raw))
    (keeps : (a b : Row) → output_cmp query (Q a) (Q b) ≡ cmp a b) (fits : (r : Row) → IsWide width r → (Q r).1 ≡ r) (puts_out : (r : Row) → output query ([] ∷ r ∷ []) ≡ P r) (paged : (rows : List Row) → page query [] rows ≡ rows) where
  outputs : (raws : List Row) → map (output query) (flat_map (λ r. ([] ∷ r ∷ []) ∷ []) raws) ≡ map P raws
  outputs [] = refl
  outputs (r ∷ raws) = let first = puts_out r in let more = outputs raws in cc

  seconds : (rows : List Row) → AllByRecursion (IsWide width) rows → map (λ (o : Output). o.1) (map Q rows) ≡ rows
  seconds [] wide = refl
  seconds (r ∷ rows) wide = let first = fits r wide.0 in let more = seconds rows wide.1 in cc

  pub rows_are : (raws found rows : List Row) (kept ordered : List Output) → kept ≡ map (output query) (flat_map (λ r. ([] ∷ r ∷ []) ∷ []) raws) → IsPermutation kept ordered → Rattle.std.specs.List.Sorted.IsSorted (output_cmp query) ordered
      → rows ≡ page query [] (map (λ (o : Output). o.1) ordered) → ListsRows cmp show width raws found → rows ≡ found
  rows_are raws found rows kept ordered kept_is same sorted shown it =
      let in_order = answers total (output_cmp_total query) show width P Q shows keeps raws found ordered it (subst (λ k. IsPermutation k ordered) (kept_is ∙ outputs raws) same) sorted in
      shown ∙ paged (map (λ (o : Output). o.1) ordered) ∙ ap (map (λ (o : Output). o.1)) in_order ∙ seconds found it.wide
