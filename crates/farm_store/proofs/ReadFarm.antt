-- The tables of a farm, read.
use Rattle.std.proofs.Common.{refl, ◌≡◌, ◌≢◌, ◌⊎◌, inl, inr, Result, Ok, Err, IfErr, IfOk, IsErrAnd, IsTrue, List, map, sym, ap, ◌∙◌}
use Rattle.farm_store.proofs.Names.{AllByRecursion, BadStore, board_columns, Edition, Farm, farm_of, IsCollectorIn, IsNoVersionFault, IsReadableBoard}
use Rattle.farm_store.proofs.Names.{IsReadableIn, IsReadableJobIn, IsReadableKept, IsReadableRes, IsReadableType, IsVersion, IsVersionFault, job_columns_in}
use Rattle.farm_store.proofs.Names.{kept_columns, LooksFirst, meta_rows_in, other_edition, ReadsEdition, ReadsFarm, res_columns, Row, Rows, rows_in}
use Rattle.farm_store.proofs.Names.{schema_with, StandsIn, Store, StoreFault, table_columns_in, TableRows, type_columns, version_fault}
use Rattle.sqlite.specs.State.{State}
use Rattle.farm_store.specs.Versions.{ShowsNumbers}
use Rattle.farm_store.proofs.OneFarm.{one_farm_in}
use Rattle.farm_store.proofs.EditionLemmas.{is_in, own_schema, never_version_fault, not_bad, not_store, states_of, whole_in, words_of}
use Rattle.farm_store.proofs.RowSelects.{schema_from_version, version_from_schema}

-- a table that was refused for its rows refuses them all
pub refuses_farm : (e : Edition) (r : Result Rows StoreFault) (T : TableRows) (fault : StoreFault) → IsErrAnd r (λ f. f ≡ fault) → (fault ≡ BadStore → (F : Farm) → IsReadableIn e F → rows_in e F ≢ T) → ReadsFarm e r T
refuses_farm e (Ok rows) T fault is none = absurd is
refuses_farm e (Err f) T fault is none = λ bad. none (sym is ∙ bad)

-- six tables that were read are a farm
pub reads : (e : Edition) (rows : Rows) (T : TableRows) → AllByRecursion IsReadableType rows.types.items × (T.types ≡ map type_columns rows.types.items) → AllByRecursion IsReadableBoard rows.boards.items × (T.boards ≡ map board_columns rows.boards.items)
    → AllByRecursion (IsReadableJobIn e) rows.jobs.items × (T.jobs ≡ map (job_columns_in e) rows.jobs.items) → AllByRecursion IsReadableRes rows.reservations.items × (T.reservations ≡ map res_columns rows.reservations.items)
    → AllByRecursion IsReadableKept rows.kept.items × (T.kept ≡ map kept_columns rows.kept.items) → IsCollectorIn e rows.meta.collector → T.meta ≡ meta_rows_in e rows.meta → IsReadableIn e (farm_of rows) × (rows_in e (farm_of rows) ≡ T)
reads e rows T types boards jobs reservations kept collector meta = (
  is_in e (farm_of rows) (record { types = types.0; boards = boards.0; jobs = words_of e rows.jobs.items jobs.0; reservations = reservations.0; kept = kept.0 })
      (states_of e rows.jobs.items jobs.0) collector,
  whole_in e (farm_of rows) T (record { types = types.1; boards = boards.1; jobs = jobs.1; reservations = reservations.1; kept = kept.1; meta = meta }),
)

if_read : (e : Edition) (r : Result Rows StoreFault) (P : Rows → Type 0) (Q : TableRows → Type 0) → ((T : TableRows) → Q T → ReadsFarm e r T)
    → ((rows : Rows) → ((T : TableRows) → Q T → IsReadableIn e (farm_of rows) × (rows_in e (farm_of rows) ≡ T)) → P rows) → IfOk r P
if_read e (Ok rows) P Q read f = f rows read
if_read e (Err fault) P Q read f = tt

never_bad : (e : Edition) (r : Result Rows StoreFault) (F : Farm) → r ≡ Err BadStore → IsReadableIn e F → ReadsFarm e r (rows_in e F) → ⊥
never_bad e (Ok rows) F bad good read = let x = bad in cc
never_bad e (Err f) F bad good read = read (let same : f ≡ BadStore = cc in same) F good refl

-- what is reported of a store, by what is reported of the tables that stand there and of the version; nothing is read of one that is not open
reads_edition : (e : Edition) (r : Result Rows StoreFault) (s : State) → ((T : TableRows) → StandsIn e s T → ReadsFarm e r T) → (r ≡ Err Store) ⊎ IsTrue s.is_open → LooksFirst e r s.now → ReadsEdition e r s
reads_edition e r s read shut version = record {
  rows = if_read e r (λ rows. (T : TableRows) → StandsIn e s T → rows_in e (farm_of rows) ≡ T) (StandsIn e s) read (λ rows read T at. (read T at).1);
  readable = if_read e r (λ rows. (T : TableRows) → StandsIn e s T → IsReadableIn e (farm_of rows)) (StandsIn e s) read (λ rows read T at. (read T at).0);
  farm = if_read e r (λ rows. (F : Farm) → IsReadableIn e F → StandsIn e s (rows_in e F) → farm_of rows ≡ F) (StandsIn e s) read
      (λ rows read F good at. let it = read (rows_in e F) at in one_farm_in e (farm_of rows) F it.0 good it.1);
  bad = λ bad F good at. never_bad e r F bad good (read (rows_in e F) at);
  other = λ reported T at. elim shut [
    | inl failed ↦ absurd (not_store (other_edition e) (let same : Err Store ≡ Err (version_fault (other_edition e)) = sym failed ∙ reported in let x : Store ≡ version_fault (other_edition e) = cc in x))
    | inr opened ↦ schema_from_version (table_columns_in e) s.now T (at.shown opened) _ (version.reported reported)
  ];
  schema = λ T at. elim shut [
    | inl failed ↦ record { known = λ _. inr failed; other = λ _ _. inr failed }
    | inr opened ↦ let see = at.shown opened in record {
      known = λ is. version.known (version_from_schema (table_columns_in e) s.now T see _ is);
      other = λ not_other not_own. version.neither (λ has. not_other (schema_from_version (table_columns_in e) s.now T see _ has)) (λ has. not_own (schema_from_version (table_columns_in e) s.now T see _ has));
    }
  ];
  version = version;
}

err_is : {A : Type 0} (r : Result A StoreFault) (fault : StoreFault) → IsErrAnd r (λ f. f ≡ fault) → r ≡ Err fault
err_is (Ok a) fault is = absurd is
err_is (Err f) fault is = ap Err is

same_fault : {A : Type 0} (r : Result A StoreFault) (fault f : StoreFault) → IsErrAnd r (λ g. g ≡ fault) → r ≡ Err f → fault ≡ f
same_fault (Ok a) fault f is same = absurd is
same_fault (Err g) fault f is same = let x : g ≡ f = cc in sym is ∙ x

-- a store that failed reports nothing
pub failed : (e : Edition) (r : Result Rows StoreFault) (s : State) → IsErrAnd r (λ f. f ≡ Store) → ReadsEdition e r s
failed e r s is =
    let was = err_is r Store is in
    reads_edition e r s (λ T at. refuses_farm e r T Store is (λ bad. absurd (cc))) (inl was) (record {
      reported = λ reported. absurd (not_store (other_edition e) (same_fault r Store _ is reported));
      known = λ _. inr was;
      neither = λ _ _. inr was;
    })

-- numbers that were shown are refused for their version
pub refused : (e : Edition) (r : Result Rows StoreFault) (s : State) (rows : List Row) (fault : StoreFault) → IsErrAnd r (λ f. f ≡ fault) → IsTrue s.is_open → ShowsNumbers s.now rows → IsVersionFault e fault rows → ReadsEdition e r s
refused e r s rows fault is opened shows (inl (reported, other)) =
    let was = err_is r fault is ∙ ap Err reported in
    reads_edition e r s (λ T at. refuses_farm e r T fault is (λ bad. absurd (not_bad (other_edition e) (sym bad ∙ reported)))) (inr opened) (record {
      reported = λ _. (rows, shows, other);
      known = λ _. inl was;
      neither = λ none. absurd (none (rows, shows, other));
    })
refused e r s rows fault is opened shows (inr (bad, not_other, none)) =
    let was = err_is r fault is ∙ ap Err bad in
    reads_edition e r s (λ T at. refuses_farm e r T fault is (λ _ F good same. none (version_from_schema (table_columns_in e) s.now T (at.shown opened) _ (own_schema e F T same) rows shows))) (inr opened) (record {
      reported = λ reported. absurd (not_bad (other_edition e) (sym bad ∙ same_fault r fault _ is reported));
      known = λ has. absurd (not_other (has rows shows));
      neither = λ _ _. inl was;
    })

-- numbers of this version are refused as nothing, and no later fault speaks of the version
pub known : (e : Edition) (r : Result Rows StoreFault) (s : State) (rows : List Row) → IsTrue s.is_open → ShowsNumbers s.now rows → IsVersion e rows → IfErr r IsNoVersionFault → ((T : TableRows) → StandsIn e s T → ReadsFarm e r T) → ReadsEdition e r s
known e r s rows opened shows version none read =
    reads_edition e r s read (inr opened) (record {
      reported = λ reported. absurd (never_version_fault (other_edition e) r none reported);
      known = λ has. absurd (version.0 (has rows shows));
      neither = λ _ no_own. absurd (no_own (rows, shows, version.1));
    })

-- of tables that were read as an edition's, but beside which something else stands, no farm's stand there
pub beside_others : (e : Edition) (read r : Result Rows StoreFault) (rows : Rows) (s : State) → read ≡ Ok rows → r ≡ Err BadStore → IsTrue s.is_open → s.now.schema ≢ schema_with (table_columns_in e) → ReadsEdition e read s → ReadsEdition e r s
beside_others e read r rows s was bad opened apart reads =
    reads_edition e r s (λ T at. absurd (apart (at.shown opened).schema)) (inr opened) (record {
      reported = λ reported. absurd (not_bad (other_edition e) (let same : Err BadStore ≡ Err (version_fault (other_edition e)) = sym bad ∙ reported in let x : BadStore ≡ version_fault (other_edition e) = cc in x));
      known = λ has. elim (reads.version.known has) [ inl is ↦ absurd (let x = sym was ∙ is in cc) | inr is ↦ absurd (let x = sym was ∙ is in cc) ];
      neither = λ _ _. inl bad;
    })
