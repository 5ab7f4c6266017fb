-- The statement that makes the rows of the jobs from one number to another those of the second edition.
use Rattle.std.proofs.Common.{refl, ◌≡◌, ◌≤◌, ◌-◌, ◌++◌, ℕ, zero, suc, length, pos, List, [], ◌∷◌, map, drop, codes, Bool, true, false, cond, not, ◌&&◌, Some}
use Rattle.std.proofs.Common.{Ok, sym, ap, ap₂, subst, ◌∙◌, arith, Less, Greater, Equal}
use Rattle.std.specs.Prelude.{nat_lt}
use Rattle.farm_store.proofs.Names.{AllByRecursion, Arith, Binary, cast_row, col, columns_below, command_of, Compare, Edition, edition_below, farm_schema}
use Rattle.farm_store.proofs.Names.{first_state_code, Ge, Gt, Int, int_cmp, IsInside, IsPlain, IsSmallJob, job_columns_in, job_state_code, JobRow, jobs_table}
use Rattle.farm_store.proofs.Names.{JobState, le-ltb, lit, Lt, lt-ltb, nat_tests, Null, op2, raised_below, Row, rowid, state_code_in, TableRows, Term, Update}
use Rattle.farm_store.proofs.Names.{Value, value_cmp-Int, with_number}
use Rattle.sqlite.specs.Table.{Table}
use Rattle.sqlite.specs.Listing.{understood}
use Rattle.sqlite.specs.State.{State, ExecutesInside}
use Rattle.sqlite_tied.specs.Compute.{everything}
use Rattle.sqlite_sql.specs.Ops.{binary, from_truth, is_true, test}
use Rattle.sqlite_sql.specs.declared.ops.ArithOp.TheVariants.{Add, Rem}
use Rattle.sqlite_sql.specs.declared.ops.CompareOp.{CompareOp}
use Rattle.farm_store.specs.declared.jobs.TheConstants.{END, RAISE}
use Rattle.farm_store.proofs.Keys.{and_true, from_test}
use Rattle.farm_store.proofs.PutAt.{jobs_known, of_jobs}
use Rattle.farm_store.proofs.Replace.{cast_int}
use Rattle.farm_store.proofs.Clause.{query as query_of}
use Rattle.farm_store.proofs.Stays.{all_stay}
use Rattle.farm_store.proofs.UpdateRows.{Turns, changes as passes_tests, rewrites, table as table_of, written_as}

abbrev tests : List Term
tests = op2 (Compare Gt Binary) (col 1 9) (lit (Int (pos 0))) ∷ op2 (Compare Ge Binary) (col 1 0) (col 0 0) ∷ op2 (Compare Lt Binary) (col 1 0) (col 0 1) ∷ []

abbrev new_state : Term
new_state = op2 (Arith Add) (op2 (Arith Rem) (col 1 9) (lit (Int (pos 5)))) (lit (Int (pos 1)))

-- so many columns as they are, from one place on
abbrev same_from : ℕ → ℕ → List Term
same_from at zero = []
same_from at (suc n) = col 1 at ∷ same_from (suc at) n

abbrev project : List Term
project = col 1 0 ∷ col 1 0 ∷ lit Null ∷ same_from 2 7 ++ new_state ∷ same_from 10 (length jobs_table.columns - 9)

raise_is : (command_of (understood farm_schema RAISE.now) ≡ Update 2 (record { lets = []; body = query_of 4 tests project })) × IsPlain (understood farm_schema RAISE.now)
unfolding understood everything
raise_is = (refl, (refl, refl))

abbrev table : Table
table = table_of of_jobs jobs_known (codes "jobs") jobs_table.columns (Some 0) (0 ∷ []) [] [] 2 tests project (λ keys olds news. refl) (λ db. refl)

-- ---- numbers, as the statement compares them

abbrev passes : CompareOp → ℕ → ℕ → Bool
passes op a b = is_true (binary (Compare op Binary) (Int (pos a)) (Int (pos b)))

passes_is : (op : CompareOp) (a b : ℕ) → passes op a b ≡ test op (int_cmp (pos a) (pos b))
unfolding binary
passes_is op a b = ap (λ o. is_true (from_truth (Some (test op o)))) (value_cmp-Int (pos a) (pos b)) ∙ from_test (test op (int_cmp (pos a) (pos b)))

lower : (p q : Bool) → test Lt (cond p Less (cond q Greater Equal)) ≡ p
lower true q = refl
lower false true = refl
lower false false = refl

at_least : (p q : Bool) → test Ge (cond p Less (cond q Greater Equal)) ≡ not p
at_least true q = refl
at_least false true = refl
at_least false false = refl

-- ---- the codes

abbrev grows : Edition → JobState → Bool
grows e s = passes Gt (state_code_in e s) 0

abbrev grown : JobState → Value
grown s = binary (Arith Add) (binary (Arith Rem) (Int (pos (first_state_code s))) (Int (pos 5))) (Int (pos 1))

grows_is : (s : JobState) → grows Edition.First s ≡ test Gt (int_cmp (pos (first_state_code s)) (pos 0))
grows_is s = passes_is Gt (first_state_code s) 0

grown_is : (s : JobState) → grows Edition.First s ≡ true → grown s ≡ Int (pos (job_state_code s))
unfolding binary
grown_is JobState.Submitted up = absurd (let e : false ≡ true = sym (grows_is JobState.Submitted) ∙ up in cc)
grown_is JobState.Scheduling up = refl
grown_is JobState.Scheduled up = refl
grown_is JobState.Running up = refl
grown_is JobState.Canceling up = refl
grown_is JobState.Finished up = refl

same_code : (s : JobState) → grows Edition.First s ≡ false → first_state_code s ≡ job_state_code s
same_code JobState.Submitted same = refl
same_code JobState.Scheduling same = absurd (let e : true ≡ false = sym (grows_is JobState.Scheduling) ∙ same in cc)
same_code JobState.Scheduled same = absurd (let e : true ≡ false = sym (grows_is JobState.Scheduled) ∙ same in cc)
same_code JobState.Running same = absurd (let e : true ≡ false = sym (grows_is JobState.Running) ∙ same in cc)
same_code JobState.Canceling same = absurd (let e : true ≡ false = sym (grows_is JobState.Canceling) ∙ same in cc)
same_code JobState.Finished same = absurd (let e : true ≡ false = sym (grows_is JobState.Finished) ∙ same in cc)

-- ---- the raw row of a job

abbrev raw_in : Edition → Value → JobRow → Row
raw_in e w r = Int (pos r.number) ∷ w ∷ drop 1 (job_columns_in e r)

is_raw : (e : Edition) (raw : Row) (r : JobRow) → with_number raw ≡ job_columns_in e r → (w : Value) × (raw ≡ raw_in e w r)
is_raw e [] r same = absurd (cc)
is_raw e (v ∷ []) r same = absurd (cc)
is_raw e (v ∷ w ∷ rest) r same =
    let first : v ≡ Int (pos r.number) = cc in
    let more : rest ≡ drop 1 (job_columns_in e r) = cc in
    (w, ap₂ (λ (n : Value) (l : Row). n ∷ w ∷ l) first more)

stays : (r : JobRow) → cast_row table (raw_in Edition.Second Null r) ≡ raw_in Edition.Second Null r
stays r = ap₂ ◌∷◌ (cast_int (pos r.number)) (all_stay jobs_table.columns (Null ∷ drop 1 (job_columns_in Edition.Second r)) refl)

raises_raw : (w : Value) (bounds : Row) (r : JobRow) → grows Edition.First r.state ≡ true → written_as table tests project bounds (raw_in Edition.First w r) ≡ raw_in Edition.Second Null r
raises_raw w bounds r up = rw (grown_is r.state up) (stays r)

-- ---- what the statement makes of it

abbrev edition_if : Bool → Edition
edition_if raised = cond raised Edition.Second Edition.First

abbrev bounds : ℕ → ℕ → Row
bounds from to = Int (pos from) ∷ Int (pos to) ∷ []

and_false : (b : Bool) → (b && false) ≡ false
and_false true = refl
and_false false = refl

still_below : (n from to : ℕ) → from ≤ to → nat_lt n from ≡ true → nat_lt n to ≡ true
still_below n from to fits low = grind (arith, nat_tests)

module _ (from to : ℕ) where
  abbrev changes : Row → Bool
  changes = passes_tests table tests project (bounds from to)

  abbrev TurnsTo : Edition → Row → JobRow → Type 0
  TurnsTo e raw r = Turns table tests project (bounds from to) with_number raw (job_columns_in e r)

  changes_is : (e : Edition) (w : Value) (r : JobRow) → changes (raw_in e w r) ≡ (grows e r.state && (not (nat_lt r.number from) && (nat_lt r.number to && true)))
  changes_is e w r =
      let low = passes_is Ge r.number from ∙ at_least (nat_lt r.number from) (nat_lt from r.number) in
      let high = passes_is Lt r.number to ∙ lower (nat_lt r.number to) (nat_lt to r.number) in
      ap₂ (λ (p q : Bool). grows e r.state && (p && (q && true))) low high

  -- by whether the job is below the first number, and below the second
  turns_by : (w : Value) (r : JobRow) (first second : Bool) → (first ≡ true → second ≡ true) → changes (raw_in (edition_if first) w r) ≡ (grows (edition_if first) r.state && (not first && (second && true)))
      → TurnsTo (edition_if second) (raw_in (edition_if first) w r) r
  turns_by w r true true more is = record { same = λ level. refl; new = λ up. absurd (let e = sym (and_false (grows Edition.Second r.state)) ∙ sym is ∙ up in cc) }
  turns_by w r true false more is = absurd (let e = more refl in cc)
  turns_by w r false true more is = record {
    same = λ level. let code = same_code r.state (sym (and_true (grows Edition.First r.state)) ∙ sym is ∙ level) in rw code refl;
    new = λ up. let raised = raises_raw w (bounds from to) r (sym (and_true (grows Edition.First r.state)) ∙ sym is ∙ up) in (ap with_number raised, ap rowid raised);
  }
  turns_by w r false false more is = record { same = λ level. refl; new = λ up. absurd (let e = sym (and_false (grows Edition.First r.state)) ∙ sym is ∙ up in cc) }

  turns : from ≤ to → (raw : Row) (r : JobRow) → with_number raw ≡ columns_below from r → TurnsTo (edition_below to r) raw r
  turns fits raw r shows =
      let it = is_raw (edition_below from r) raw r shows in
      subst (λ raw. TurnsTo (edition_below to r) raw r) (sym it.1) (turns_by it.0 r (nat_lt r.number from) (nat_lt r.number to) (still_below r.number from to fits) (changes_is (edition_below from r) it.0 r))

pub raises_window : (old new : State) (count from to : ℕ) (params : Row) (T : TableRows) (jobs : List JobRow) → params ≡ bounds from to → from ≤ to → IsInside old (raised_below from jobs T) → ExecutesInside 0 RAISE.now params old new (Ok count) → IsInside new (raised_below to jobs T)
raises_window old new count from to params T jobs are fits at ran =
    rewrites of_jobs jobs_known (codes "jobs") jobs_table.columns (Some 0) (0 ∷ []) [] [] 2 tests project (λ keys olds news. refl) (λ db. refl) RAISE.now refl raise_is.0 raise_is.1
    old new (bounds from to) count (raised_below from jobs T) (λ raw. refl) (columns_below from) (columns_below to) jobs refl (λ x y. refl) (λ x. refl) (λ raw x among keyed. turns from to fits raw x) at
    (subst (λ params. ExecutesInside 0 RAISE.now params old new (Ok count)) are ran)

-- ---- none of the jobs is raised, and all are

pub none_raised : (jobs : List JobRow) → map (columns_below 0) jobs ≡ map (job_columns_in Edition.First) jobs
none_raised [] = refl
none_raised (r ∷ jobs) = ap₂ ◌∷◌ (ap (λ b. job_columns_in (edition_if b) r) (le-ltb r.number 0 (omega arith))) (none_raised jobs)

pub all_raised : (jobs : List JobRow) → AllByRecursion IsSmallJob jobs → map (columns_below END) jobs ≡ map (job_columns_in Edition.Second) jobs
all_raised [] small = refl
all_raised (r ∷ jobs) small = ap₂ ◌∷◌ (ap (λ b. job_columns_in (edition_if b) r) (lt-ltb r.number END (let n = small.0.number in omega arith))) (all_raised jobs small.1)
