-- The two editions of the tables.
use Rattle.std.proofs.Common.{refl, ◌≡◌, ◌≢◌, List, [], ◌∷◌, map, Result, Ok, Err, IfErr, IsErrAnd, sym, subst, ◌∙◌}
use Rattle.farm_store.proofs.Names.{AllByRecursion, BadStore, Edition, Farm, IsCollectorIn, IsNoVersionFault, IsReadableIn, IsReadableJobIn, IsStateIn}
use Rattle.farm_store.proofs.Names.{job_columns_in, JobRow, meta_rows_in, other_edition, rows_in, schema_of, Store, StoreFault, version_fault}
use Rattle.farm_types.proofs.Put.{AllByRecursion-weaker}
use Rattle.farm_store.specs.Columns.{IsOfSchema, TableRows, rows_of, first_rows_of, type_columns, board_columns, res_columns, kept_columns, numbers_of}
use Rattle.farm_store.specs.Columns.{second_schema}
use Rattle.farm_store.specs.Readable.{IsReadable, IsReadableJob}

pub no_version : (e : Edition) (fault : StoreFault) → IsNoVersionFault fault → fault ≢ version_fault e
no_version Edition.First fault none = none.0
no_version Edition.Second fault none = none.1

pub not_store : (e : Edition) → Store ≢ version_fault e
not_store Edition.First is = cc
not_store Edition.Second is = cc

pub not_bad : (e : Edition) → BadStore ≢ version_fault e
not_bad Edition.First is = cc
not_bad Edition.Second is = cc

pub not_own : (e : Edition) → version_fault (other_edition e) ≢ version_fault e
not_own Edition.First is = cc
not_own Edition.Second is = cc

-- a fault that is handed on
pub never_handed : {A : Type 0} (e : Edition) (r : Result A StoreFault) (fault : StoreFault) → IsErrAnd r (λ f. f ≡ fault) → fault ≢ version_fault e → r ≢ Err (version_fault e)
never_handed e (Ok a) fault is never same = absurd is
never_handed e (Err f) fault is never same = let x : f ≡ version_fault e = cc in never (sym is ∙ x)

pub never_version_fault : {A : Type 0} (e : Edition) (r : Result A StoreFault) → IfErr r IsNoVersionFault → r ≢ Err (version_fault e)
never_version_fault e (Ok a) none same = let x = same in cc
never_version_fault e (Err f) none same = let x : f ≡ version_fault e = cc in no_version e f none x

-- ---- the farms that an edition spells

all_states : (jobs : List JobRow) → AllByRecursion (λ j. IsStateIn Edition.Second j.state) jobs
all_states [] = tt
all_states (j ∷ jobs) = (tt, all_states jobs)

pub words_in : (e : Edition) (F : Farm) → IsReadableIn e F → IsReadable F
words_in Edition.First F is = is.words
words_in Edition.Second F is = is

pub states_in : (e : Edition) (F : Farm) → IsReadableIn e F → AllByRecursion (λ j. IsStateIn e j.state) F.jobs
states_in Edition.First F is = is.states
states_in Edition.Second F is = all_states F.jobs

pub collector_in : (e : Edition) (F : Farm) → IsReadableIn e F → IsCollectorIn e F.collector
collector_in Edition.First F is = is.none
collector_in Edition.Second F is = tt

pub is_in : (e : Edition) (F : Farm) → IsReadable F → AllByRecursion (λ j. IsStateIn e j.state) F.jobs → IsCollectorIn e F.collector → IsReadableIn e F
is_in Edition.First F words states none = record { words = words; states = states; none = none }
is_in Edition.Second F words states none = words

jobs_in_words : (e : Edition) (jobs : List JobRow) → AllByRecursion IsReadableJob jobs → AllByRecursion (λ j. IsStateIn e j.state) jobs → AllByRecursion (IsReadableJobIn e) jobs
jobs_in_words e [] words states = tt
jobs_in_words e (j ∷ jobs) words states = (record { words = words.0; state = states.0 }, jobs_in_words e jobs words.1 states.1)

pub readable_jobs : (e : Edition) (F : Farm) → IsReadableIn e F → AllByRecursion (IsReadableJobIn e) F.jobs
readable_jobs e F is = jobs_in_words e F.jobs (words_in e F is).jobs (states_in e F is)

pub words_of : (e : Edition) (jobs : List JobRow) → AllByRecursion (IsReadableJobIn e) jobs → AllByRecursion IsReadableJob jobs
words_of e jobs all = AllByRecursion-weaker (λ j is. is.words) jobs all

pub states_of : (e : Edition) (jobs : List JobRow) → AllByRecursion (IsReadableJobIn e) jobs → AllByRecursion (λ j. IsStateIn e j.state) jobs
states_of e jobs all = AllByRecursion-weaker (λ j is. is.state) jobs all

-- ---- the tables of a farm, one by one

pub record Spells (e : Edition) (F : Farm) (T : TableRows) : Type 0 where
  pub types : T.types ≡ map type_columns F.types
  pub boards : T.boards ≡ map board_columns F.boards
  pub jobs : T.jobs ≡ map (job_columns_in e) F.jobs
  pub reservations : T.reservations ≡ map res_columns F.reservations
  pub kept : T.kept ≡ map kept_columns F.kept
  pub meta : T.meta ≡ meta_rows_in e (numbers_of F)

its_own : (e : Edition) (F : Farm) → Spells e F (rows_in e F)
unfolding rows_of first_rows_of
its_own Edition.First F = record { types = refl; boards = refl; jobs = refl; reservations = refl; kept = refl; meta = refl }
its_own Edition.Second F = record { types = refl; boards = refl; jobs = refl; reservations = refl; kept = refl; meta = refl }

pub spelled : (e : Edition) (F : Farm) (T : TableRows) → rows_in e F ≡ T → Spells e F T
spelled e F T is = subst (Spells e F) is (its_own e F)

-- six tables that are those of a farm are all that it has
pub whole_in : (e : Edition) (F : Farm) (T : TableRows) → Spells e F T → rows_in e F ≡ T
unfolding rows_of first_rows_of
whole_in Edition.First F T s = sym (λ i. record { types = s.types i; boards = s.boards i; jobs = s.jobs i; reservations = s.reservations i; kept = s.kept i; meta = s.meta i })
whole_in Edition.Second F T s = sym (λ i. record { types = s.types i; boards = s.boards i; jobs = s.jobs i; reservations = s.reservations i; kept = s.kept i; meta = s.meta i })

-- ---- the version: a farm's tables have their edition's alone

of_own_schema : (e : Edition) (F : Farm) → IsOfSchema (schema_of e) (rows_in e F)
unfolding rows_of first_rows_of
of_own_schema Edition.First F = refl
of_own_schema Edition.Second F = refl

pub own_schema : (e : Edition) (F : Farm) (T : TableRows) → rows_in e F ≡ T → IsOfSchema (schema_of e) T
own_schema e F T is = subst (IsOfSchema (schema_of e)) is (of_own_schema e F)

pub not_other : (e : Edition) (F : Farm) → IsOfSchema (schema_of (other_edition e)) (rows_in e F) → ⊥
unfolding rows_of first_rows_of
not_other Edition.First F is = let e = is in cc
not_other Edition.Second F is = let e = is in cc

-- the same of the two by name
pub rows_are_new : (F : Farm) → IsOfSchema second_schema (rows_of F)
rows_are_new F = of_own_schema Edition.Second F

pub first_rows_are_old : (F : Farm) → IsOfSchema second_schema (first_rows_of F) → ⊥
first_rows_are_old F = not_other Edition.First F

-- no farm's tables of one edition are a farm's of the other
pub editions_apart : (F G : Farm) → rows_of F ≢ first_rows_of G
editions_apart F G same = first_rows_are_old G (subst (IsOfSchema second_schema) same (rows_are_new F))
