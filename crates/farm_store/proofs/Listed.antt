-- A list of objects lists one schema at most.
use Rattle.std.proofs.Common.{MatchBool, Option, ◌≡◌, ◌≢◌, ◌⊎◌, inl, inr, ℕ, pos, ◌+◌, ◌<◌, List, [], ◌∷◌, ◌++◌, codes, filter, slice_get, slice_index_or, Bool}
use Rattle.std.proofs.Common.{true, false, None, Some, Ok, refl, sym, ap, subst, ◌∙◌, arith}
use Rattle.std.specs.Fmt.{decimal}
use Rattle.farm_store.proofs.Names.{all_has, AllZip, append_cancel_left, catalog_tree, column, Database, farm_schema, Has, Holds, IsAscending, Row, rowid}
use Rattle.farm_store.proofs.Names.{Stands, TableRows, Trees, Value}
use Rattle.std.proofs.lemmas.Fmt.{decimal_injective}
use Rattle.sqlite.specs.declared.types.Value.TheVariants.{Null, Int, Real, Text, Blob}
use Rattle.sqlite_schema.specs.Names.{same_name}
use Rattle.sqlite_schema.specs.declared.schema.Table.{Table}
use Rattle.sqlite_schema.specs.declared.schema.Index.{Index}
use Rattle.sqlite_schema.specs.declared.schema.Schema.{Schema}
use Rattle.sqlite_schema.specs.declared.schema.View.{View}
use Rattle.sqlite_catalog.specs.Listing.{AreListed, IsAside, IsDefined, IsForeign, IsIndexRow, IsReadable, IsTableRow, IsViewRow, automatic, is_table_row}
use Rattle.sqlite_catalog.specs.Listing.{is_index_row, is_view_row}
use Rattle.sqlite_resolve.specs.Compile.{table_defined_by}
use Rattle.sqlite_catalog.proofs.StepLemmas.{same_itself}
use Rattle.sqlite.specs.State.{State, Opens, IsLive}

same_ok : {A E : Type 0} {a b : A} → ◌≡◌ {A = Rattle.std.proofs.Common.Result A E} (Ok a) (Ok b) → a ≡ b
same_ok e = cc

same_id : (row : Row) (m n : ℕ) → rowid row ≡ Int (pos (m + 1)) → rowid row ≡ Int (pos (n + 1)) → m ≡ n
same_id row m n p q = let e : m + 1 ≡ n + 1 = (let both = sym p ∙ q in cc) in omega (arith, e)

same_table : (row : Row) (s t : Table) → IsTableRow row s → IsTableRow row t → s ≡ t
same_table row s t a b =
    let sql : a.sql ≡ b.sql = (let e = sym a.sql_is ∙ b.sql_is in cc) in
    let made : a.defined.0 ≡ b.defined.0 = same_ok (sym a.defined.1 ∙ ap table_defined_by sql ∙ b.defined.1) in
    let tree = same_id row s.tree t.tree a.described.id b.described.id in
    a.defined.2 ∙ ap (λ (m : Table). record m { tree = s.tree }) made ∙ ap (λ (n : ℕ). record b.defined.0 { tree = n }) tree ∙ sym b.defined.2

zip_same : {X : Type 0} (R : Row → X → Type 0) → ((row : Row) (x y : X) → R row x → R row y → x ≡ y) → (rows : List Row) (xs ys : List X) → AllZip R rows xs → AllZip R rows ys → xs ≡ ys
zip_same R one [] [] [] a b = refl
zip_same R one [] (x ∷ xs) ys a b = absurd a
zip_same R one [] [] (y ∷ ys) a b = absurd b
zip_same R one (r ∷ rows) [] ys a b = absurd a
zip_same R one (r ∷ rows) (x ∷ xs) [] a b = absurd b
zip_same R one (r ∷ rows) (x ∷ xs) (y ∷ ys) a b = let first = one r x y a.0 b.0 in let more = zip_same R one rows xs ys a.1 b.1 in cc

-- no two tables have one name
one_name : (tables : List Table) → IsAscending (λ s t. same_name s.name t.name ≡ false) tables → (s t : Table) → Has tables s → Has tables t → s.name ≡ t.name → s ≡ t
one_name [] named s t h k same = absurd h
one_name (u ∷ tables) named s t (inl h) (inl k) same = h ∙ sym k
one_name (u ∷ tables) named s t (inl h) (inr k) same =
    let apart = all_has (λ v. same_name u.name v.name ≡ false) tables t named.0 k in
    let name : u.name ≡ t.name = ap (λ (v : Table). v.name) (sym h) ∙ same in absurd (let e = sym (same_itself t.name) ∙ ap (λ n. same_name n t.name) (sym name) ∙ apart in cc)
one_name (u ∷ tables) named s t (inr h) (inl k) same =
    let apart = all_has (λ v. same_name u.name v.name ≡ false) tables s named.0 h in
    let name : u.name ≡ s.name = ap (λ (v : Table). v.name) (sym k) ∙ sym same in absurd (let e = sym (same_itself s.name) ∙ ap (λ n. same_name n s.name) (sym name) ∙ apart in cc)
one_name (u ∷ tables) named s t (inr h) (inr k) same = one_name tables named.1 s t h k same

-- the name of an index that SQLite makes says which UNIQUE of its table it is for
same_unique : (name : List ℕ) (m n : ℕ) → m < 65536 → n < 65536
    → codes "sqlite_autoindex_" ++ (name ++ (codes "_" ++ decimal (m + 1))) ≡ codes "sqlite_autoindex_" ++ (name ++ (codes "_" ++ decimal (n + 1))) → m ≡ n
same_unique name m n low high same =
    let behind = append_cancel_left (codes "sqlite_autoindex_") (name ++ (codes "_" ++ decimal (m + 1))) (name ++ (codes "_" ++ decimal (n + 1))) same in
    let last = append_cancel_left name (codes "_" ++ decimal (m + 1)) (codes "_" ++ decimal (n + 1)) behind in
    let number = append_cancel_left (codes "_") (decimal (m + 1)) (decimal (n + 1)) last in
    let next : m + 1 ≡ n + 1 = decimal_injective (m + 1) (n + 1) (omega (arith, low)) (omega (arith, high)) number in
    omega (arith, next)

same_index : (tables : List Table) → IsAscending (λ s t. same_name s.name t.name ≡ false) tables → (row : Row) (i j : Index) → IsIndexRow tables row i → IsIndexRow tables row j → i ≡ j
same_index tables named row i j a b =
    let owner : a.table.name ≡ b.table.name = (let e = sym a.described.owner_is ∙ b.described.owner_is in cc) in
    let table = one_name tables named a.table b.table a.listed b.listed owner in
    let tree = same_id row i.tree j.tree a.described.id b.described.id in
    let name : i.name ≡ j.name = (let e = sym a.described.name_is ∙ b.described.name_is in cc) in
    by (column row 4) a.defined (subst (λ t. IsDefined t j (column row 4)) (sym table) b.defined) tree name
  where
    by : (v : Value) → IsDefined a.table i v → IsDefined a.table j v → i.tree ≡ j.tree → i.name ≡ j.name → i ≡ j
    by Null p q tree name =
        let at : p.0 ≡ q.0 = same_unique a.table.name p.0 q.0 p.4 q.4 (sym (ap (λ (x : Index). x.name) p.3) ∙ name ∙ ap (λ (x : Index). x.name) q.3) in
        let key : p.1 ≡ q.1 = (let e = sym p.2 ∙ ap (slice_get a.table.uniques) at ∙ q.2 in cc) in
        p.3 ∙ ap (λ n. automatic a.table n p.1 i.tree) at ∙ ap (λ k. automatic a.table q.0 k i.tree) key ∙ ap (automatic a.table q.0 q.1) tree ∙ sym q.3
    by (Int n) p q tree name = absurd p
    by (Real x) p q tree name = absurd p
    by (Text sql) p q tree name =
        let made : p.0 ≡ q.0 = same_ok (sym p.1 ∙ q.1) in
        p.2 ∙ ap (λ (m : Index). record m { tree = i.tree; table = a.table.tree }) made ∙ ap (λ (n : ℕ). record q.0 { tree = n; table = a.table.tree }) tree ∙ sym q.2
    by (Blob x) p q tree name = absurd p

-- ---- views, and what stands beside as it is

abbrev first_code : List ℕ → ℕ
first_code word = slice_index_or word 0 0

-- words of different first letters
apart : (a b : List ℕ) → first_code a ≢ first_code b → a ≢ b
apart a b differ same = differ (ap first_code same)

same_bound : (R : Type 0) (b c : Bool) → MatchBool b R (¬ R) → MatchBool c R (¬ R) → b ≡ c
same_bound R true true p q = refl
same_bound R true false p q = absurd (q p)
same_bound R false true p q = absurd (p q)
same_bound R false false p q = refl

same_foreign : (row : Row) (u v : View) (kind : List ℕ) (code : ℕ) → IsForeign row u kind code → IsForeign row v kind code → (u.binds ≡ v.binds) × (u.is_bound ≡ v.is_bound)
same_foreign row u v kind code (inl p) (inl q) = (p.2 ∙ sym q.2, same_bound (IsReadable row) u.is_bound v.is_bound p.3 q.3)
same_foreign row u v kind code (inl p) (inr (inl q)) = absurd (apart (codes "table") (codes "index") (λ e. omega (arith, e)) (sym p.0 ∙ q.0))
same_foreign row u v kind code (inl p) (inr (inr q)) = absurd (let c = p.1 in let d = q.1 in elim c [ inl is ↦ omega (arith, is, d) | inr is ↦ omega (arith, is, d) ])
same_foreign row u v kind code (inr (inl p)) (inl q) = absurd (apart (codes "table") (codes "index") (λ e. omega (arith, e)) (sym q.0 ∙ p.0))
same_foreign row u v kind code (inr (inl p)) (inr (inl q)) = (p.2 ∙ sym q.2, p.3 ∙ sym q.3)
same_foreign row u v kind code (inr (inl p)) (inr (inr q)) = absurd (let c = p.1 in let d = q.1 in omega (arith, c, d))
same_foreign row u v kind code (inr (inr p)) (inl q) = absurd (let c = q.1 in let d = p.1 in elim c [ inl is ↦ omega (arith, is, d) | inr is ↦ omega (arith, is, d) ])
same_foreign row u v kind code (inr (inr p)) (inr (inl q)) = absurd (let c = q.1 in let d = p.1 in omega (arith, c, d))
same_foreign row u v kind code (inr (inr p)) (inr (inr q)) = (p.2 ∙ sym q.2, p.3 ∙ sym q.3)

-- a view has no table of its own, and all else has one
no_view : (row : Row) (v : View) (kind : List ℕ) (code : ℕ) → kind ≡ codes "view" → ¬ IsForeign row v kind code
no_view row v kind code is (inl p) = apart (codes "view") (codes "table") (λ e. omega (arith, e)) (sym is ∙ p.0)
no_view row v kind code is (inr (inl p)) = apart (codes "view") (codes "index") (λ e. omega (arith, e)) (sym is ∙ p.0)
no_view row v kind code is (inr (inr p)) = apart (codes "view") (codes "trigger") (λ e. omega (arith, e)) (sym is ∙ p.0)

view_is : (u v : View) → u.name ≡ v.name → u.tree ≡ v.tree → u.sql ≡ v.sql → u.foreign ≡ v.foreign → u.binds ≡ v.binds → u.is_bound ≡ v.is_bound → u ≡ v
view_is u v name tree sql foreign binds bound =
    λ i. record { name = name i; tree = tree i; sql = sql i; foreign = foreign i; binds = binds i; is_bound = bound i }

same_aside : (row : Row) (u v : View) (kind owner : List ℕ) (code : ℕ) (f g : Option (List ℕ)) → u.foreign ≡ f → v.foreign ≡ g → u.name ≡ v.name → u.tree ≡ v.tree
    → IsAside row u kind owner code f → IsAside row v kind owner code g → u ≡ v
same_aside row u v kind owner code None None none also name tree p q =
    let sql : u.sql ≡ v.sql = (let e = sym p.3 ∙ q.3 in cc) in
    view_is u v name tree sql (none ∙ sym also) (p.6 ∙ sym q.6) (p.7 ∙ sym q.7)
same_aside row u v kind owner code None (Some t) none also name tree p q = absurd (no_view row v kind code p.0 q.2)
same_aside row u v kind owner code (Some s) None none also name tree p q = absurd (no_view row u kind code q.0 p.2)
same_aside row u v kind owner code (Some s) (Some t) one other name tree p q =
    let beside = same_foreign row u v kind code p.2 q.2 in
    view_is u v name tree (p.1 ∙ sym q.1) (one ∙ ap Some (sym p.0 ∙ q.0) ∙ sym other) beside.0 beside.1

same_view : (row : Row) (u v : View) → IsViewRow row u → IsViewRow row v → u ≡ v
same_view row u v a b =
    let kind : a.kind ≡ b.kind = (let e = sym a.described.kind_is ∙ b.described.kind_is in cc) in
    let owner : a.owner ≡ b.owner = (let e = sym a.described.owner_is ∙ b.described.owner_is in cc) in
    let code : a.code ≡ b.code = sym a.described.shape_is ∙ b.described.shape_is in
    let name : u.name ≡ v.name = (let e = sym a.described.name_is ∙ b.described.name_is in cc) in
    let tree = same_id row u.tree v.tree a.described.id b.described.id in
    same_aside row u v b.kind b.owner b.code u.foreign v.foreign refl refl name tree
    (subst (λ k. IsAside row u k b.owner b.code u.foreign) kind
    (subst (λ o. IsAside row u a.kind o b.code u.foreign) owner
    (subst (λ c. IsAside row u a.kind a.owner c u.foreign) code a.aside))) b.aside

-- ---- the schema

pub lists_one : (objects : List Row) (s t : Schema) → AreListed objects s → AreListed objects t → s ≡ t
lists_one objects s t a b =
    let tables : s.tables ≡ t.tables = zip_same IsTableRow same_table (filter is_table_row objects) s.tables t.tables a.tables b.tables in
    let indexes : s.indexes ≡ t.indexes = zip_same (IsIndexRow t.tables) (same_index t.tables b.named) (filter is_index_row objects) s.indexes t.indexes (subst (λ ts. AllZip (IsIndexRow ts) (filter is_index_row objects) s.indexes) tables a.indexes) b.indexes in
    let views : s.views ≡ t.views = zip_same IsViewRow same_view (filter is_view_row objects) s.views t.views a.views b.views in
    λ i. record { tables = tables i; indexes = indexes i; views = views i }

-- a connection that was just opened on trees that hold the tables stands for them, since an open one leaves its last commit alone
pub opened_stands : (s : State) → Opens s → IsLive s → ((db : Trees) → s.may_leave db → db ≡ s.committed.trees) → (T : TableRows) → Holds s.committed.trees T → Stands s T
opened_stands s opens live settled T holds =
    let sound = (live opens.is_open).1 in
    let schema = lists_one (s.committed.trees catalog_tree) s.committed.schema farm_schema sound.lists.listed holds.listed in
    record {
      autocommit = opens.autocommit;
      same = λ shown. opens.clean;
      shown = λ shown. record { schema = ap (λ (d : Database). d.schema) opens.clean ∙ schema; holds = subst (λ (d : Database). Holds d.trees T) (sym opens.clean) holds };
      left = λ db may. subst (λ (t : Trees). Holds t T) (sym (settled db may)) holds;
    }
