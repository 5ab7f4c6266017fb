-- What a sound farm of the first edition has, how the faults of its store are reported, and what a migration makes of it.
use Rattle.std.proofs.Common.{◌≡◌, ◌≢◌, ◌⊎◌, inl, inr, refl, Ok, Err, IsErrAnd, Result, arith, sym, ap, subst, ◌∙◌}
use Rattle.std.specs.Prelude.{ℕ, Option, Some, None, false}
use Rattle.std.proofs.lemmas.Option.{same_Some}
use Rattle.sqlite.specs.Effect.{Database}
use Rattle.sqlite.specs.State.{HasCleanDisk, State}
use Rattle.sqlite.specs.Tree.{Trees}
use Rattle.farm_types.specs.Names.{empty_farm, Farm, farm_of, IsSound, put_rows}
use Rattle.farm_types.specs.declared.calls.Rows.{Rows}
use Rattle.farm_sound.proofs.Collecting.{none_scheduling}
use Rattle.farm_store.specs.Columns.{TableRows, first_rows_of, first_schema, rows_of, second_schema}
use Rattle.farm_store.specs.Holds.{Holds, KeepsDoubt, LeavesEither, ReadsOnly, SeesSixTables, Stands}
use Rattle.farm_store.specs.Readable.{IsReadableFirst}
use Rattle.farm_store.specs.Reading.{ReadsFirst}
use Rattle.farm_store.specs.Schema.{farm_columns, farm_schema, meta_table}
use Rattle.farm_store.specs.Versions.{MayHaveVersion, HasVersion}
use Rattle.farm_store.specs.declared.fault.StoreFault.{StoreFault}
use Rattle.farm_store.proofs.EditionLemmas.{editions_apart, first_rows_are_old, rows_are_new}
use Rattle.farm_store.proofs.SoundReadable.{sound_is_readable}
use Rattle.farm_keep.specs.Faults.{IsMigrateFault, IsOwnFault, fault_of_store}
use Rattle.farm_keep.specs.First.{HoldsEitherEdition, IsSoundFirst, Migrates}
use Rattle.farm_keep.specs.Found.{LooksAtVersion}
use Rattle.farm_keep.specs.declared.fault.KeepFault.{KeepFault}
use Rattle.farm_keep.proofs.PutLemmas.{rows_are}
use Rattle.farm_keep.proofs.RunLemmas.{err_is}

pub first_of_sound : (F : Farm) → IsSoundFirst F → IsReadableFirst F
first_of_sound F is = record {
  words = sound_is_readable F is.sound;
  states = none_scheduling F.collector F.jobs is.none is.sound.collecting;
  none = is.none;
}

-- ---- faults

-- a fault of the store is reported as its own
abbrev back : KeepFault → StoreFault
back KeepFault.NoMemory = StoreFault.NoMemory
back KeepFault.BadStore = StoreFault.BadStore
back KeepFault.OldSchema = StoreFault.OldSchema
back KeepFault.NewSchema = StoreFault.NewSchema
back other = StoreFault.Store

back_is : (e : StoreFault) → back (fault_of_store e) ≡ e
back_is StoreFault.NoMemory = refl
back_is StoreFault.Store = refl
back_is StoreFault.BadStore = refl
back_is StoreFault.OldSchema = refl
back_is StoreFault.NewSchema = refl

same_store_fault : (e f : StoreFault) → fault_of_store e ≡ fault_of_store f → e ≡ f
same_store_fault e f is = sym (back_is e) ∙ ap back is ∙ back_is f

pub same_err : {A E : Type 0} {r : Result A E} {e f : E} → r ≡ Err f → r ≡ Err e → e ≡ f
same_err p q = cc

pub ok_is_no_err : {A E X : Type 0} {r : Result A E} {a : A} {e f : E} → r ≡ Ok a → (r ≡ Err e) ⊎ (r ≡ Err f) → X
ok_is_no_err was (inl is) = absurd (let x = sym was ∙ is in cc)
ok_is_no_err was (inr is) = absurd (let x = sym was ∙ is in cc)

-- what is so of want of memory and of a fault of the store's own
for_own : (P : KeepFault → Type 0) → P KeepFault.NoMemory → P KeepFault.Store → (e : StoreFault) → (e ≡ StoreFault.NoMemory) ⊎ (e ≡ StoreFault.Store) → P (fault_of_store e)
for_own P memory store e (inl is) = subst (λ f. P (fault_of_store f)) (sym is) memory
for_own P memory store e (inr is) = subst (λ f. P (fault_of_store f)) (sym is) store

migrate_fault : (e : StoreFault) → e ≢ StoreFault.OldSchema → IsMigrateFault (fault_of_store e)
migrate_fault StoreFault.NoMemory never = tt
migrate_fault StoreFault.Store never = tt
migrate_fault StoreFault.BadStore never = tt
migrate_fault StoreFault.NewSchema never = tt
migrate_fault StoreFault.OldSchema never = absurd (never refl)

-- a call of the store failed, and its fault is reported
module _ {A : Type 0} {r : Result A StoreFault} {fault : StoreFault} (was : r ≡ Err fault) where
  pub from_reported : {B : Type 0} {s : Result B KeepFault} (f : StoreFault) → s ≡ Err (fault_of_store f) → s ≡ Err (fault_of_store fault) → r ≡ Err f
  from_reported f is reported = was ∙ ap Err (same_store_fault fault f (same_err is reported))

  pub one_reported : {X : Type 0} (C : KeepFault → X) (f g : StoreFault) → (r ≡ Err f) ⊎ (r ≡ Err g)
      → (C (fault_of_store fault) ≡ C (fault_of_store f)) ⊎ (C (fault_of_store fault) ≡ C (fault_of_store g))
  one_reported C f g (inl is) = inl (ap (λ e. C (fault_of_store e)) (same_err is was))
  one_reported C f g (inr is) = inr (ap (λ e. C (fault_of_store e)) (same_err is was))

  -- the version was looked at first
  pub looks_so : (own other : ℕ) (refusal : StoreFault) (db : Database) → (r ≡ Err refusal → MayHaveVersion other db)
      → (HasVersion other db → (r ≡ Err refusal) ⊎ (r ≡ Err StoreFault.Store))
      → (¬ MayHaveVersion other db → ¬ MayHaveVersion own db → (r ≡ Err StoreFault.BadStore) ⊎ (r ≡ Err StoreFault.Store))
      → LooksAtVersion own other (fault_of_store refusal) (Some (fault_of_store fault)) db
  looks_so own other refusal db only known neither = record {
    reported = λ is. only (was ∙ ap Err (same_store_fault fault refusal (same_Some _ _ is)));
    known = λ has. one_reported Some refusal StoreFault.Store (known has);
    neither = λ a b. one_reported Some StoreFault.BadStore StoreFault.Store (neither a b);
  }

-- it was read, so it has the version that is wanted
pub looks_read : {A : Type 0} {r : Result A StoreFault} {a : A} → r ≡ Ok a → (s : Option KeepFault) (own other : ℕ) (refusal : StoreFault) (db : Database)
    → s ≢ Some (fault_of_store refusal) → (HasVersion other db → (r ≡ Err refusal) ⊎ (r ≡ Err StoreFault.Store))
    → (¬ MayHaveVersion other db → ¬ MayHaveVersion own db → (r ≡ Err StoreFault.BadStore) ⊎ (r ≡ Err StoreFault.Store))
    → LooksAtVersion own other (fault_of_store refusal) s db
looks_read was s own other refusal db never known neither = record {
  reported = λ is. absurd (never is);
  known = λ has. ok_is_no_err was (known has);
  neither = λ a b. ok_is_no_err was (neither a b);
}

-- ---- a migration, whether its tables are raised or made anew

abbrev pub Answer : Type 0
Answer = Result (Unit {0}) KeepFault

abbrev pub refused : Answer
refused = Err KeepFault.BadStore

abbrev pub done : Answer
done = Ok tt

-- it begins by a reading of the first edition's tables
module _ {old mid : State} {r : Result Rows StoreFault} (only : ReadsOnly old mid)
    (reads : HasCleanDisk mid → ReadsFirst r old) where
  -- which failed
  pub not_read : (s : Answer) (fault : StoreFault) → r ≡ Err fault → r ≢ Err StoreFault.OldSchema
      → IsErrAnd s (λ f. f ≡ fault_of_store fault) → Migrates old mid s
  not_read s fault was never reported = subst (λ (q : Answer). Migrates old mid q) (sym (err_is s (fault_of_store fault) reported)) (record {
    autocommit = only.autocommit;
    clean = only.clean;
    ok = λ clean. tt;
    only = λ clean. tt;
    ours = tt;
    stop = λ clean F sound at db may. inl (at.left db (only.left clean db may));
    others = λ clean T at none. only.stands clean _ T at;
    rests = λ clean other T at. only.stands clean _ T at;
    bad = λ clean is F sound at. (reads clean).bad (from_reported was StoreFault.BadStore is refl) F (first_of_sound F sound) at;
    newer = λ clean is T at. (reads clean).other (from_reported was StoreFault.NewSchema is refl) T at;
    known = λ clean T at is. one_reported was Err StoreFault.NewSchema StoreFault.Store (((reads clean).schema T at).known is);
    other = λ clean T at new first. one_reported was Err StoreFault.BadStore StoreFault.Store (((reads clean).schema T at).other new first);
    version = λ clean.
        let version = (reads clean).version in
        looks_so was first_schema second_schema StoreFault.NewSchema old.now version.reported version.known version.neither;
    fault = migrate_fault fault (λ is. never (was ∙ ap Err is));
  })

  -- which gave rows
  module _ {rows : Rows} (was : r ≡ Ok rows) where
    good : HasCleanDisk mid → ReadsFirst (Ok rows) old
    good clean = subst (λ (q : Result Rows StoreFault). ReadsFirst q old) was (reads clean)

    farm_is : HasCleanDisk mid → (F : Farm) → IsSoundFirst F → Stands old (first_rows_of F) → farm_of rows ≡ F
    farm_is clean F is at = (good clean).farm F (first_of_sound F is) at

    looked : HasCleanDisk mid → (s : Option KeepFault) → s ≢ Some KeepFault.NewSchema → LooksAtVersion first_schema second_schema KeepFault.NewSchema s old.now
    looked clean s never =
        let version = (reads clean).version in
        looks_read was s first_schema second_schema StoreFault.NewSchema old.now never version.known version.neither

    -- of no sound farm
    pub no_farm : ¬ IsSound (farm_of rows) → Migrates old mid refused
    no_farm unsound = record {
      autocommit = only.autocommit;
      clean = only.clean;
      ok = λ clean. tt;
      only = λ clean. tt;
      ours = tt;
      stop = λ clean F sound at db may. inl (at.left db (only.left clean db may));
      others = λ clean T at none. only.stands clean _ T at;
      rests = λ clean other T at. only.stands clean _ T at;
      bad = λ clean is F sound at. unsound (subst IsSound (sym (farm_is clean F sound at)) sound.sound);
      newer = λ clean e. absurd (let h = e in cc);
      known = λ clean T at newer. ok_is_no_err was (((reads clean).schema T at).known newer);
      other = λ clean T at new first. inl refl;
      version = λ clean. looked clean (Some KeepFault.BadStore) (λ e. let h = e in cc);
      fault = tt;
    }

    -- of a sound farm: they were written, or the store failed
    module _ (end : State) (sound : IsSound (farm_of rows)) (none : rows.meta.collector ≡ 0)
        (outside : end.in_transaction ≡ false) (keeps : KeepsDoubt mid end)
        (stops : HasCleanDisk end → Stands mid (first_rows_of (farm_of rows))
        → LeavesEither end (first_rows_of (farm_of rows)) (rows_of (farm_of rows))) where
      early : HasCleanDisk end → HasCleanDisk mid
      early is = omega (arith, keeps)

      first : IsSoundFirst (farm_of rows)
      first = record { sound = sound; none = none }

      stood : HasCleanDisk end → (F : Farm) → Stands old (first_rows_of F) → farm_of rows ≡ F → Stands mid (first_rows_of (farm_of rows))
      stood is F at same = subst (λ G. Stands mid (first_rows_of G)) (sym same) (only.stands (early is) _ (first_rows_of F) at)

      left : HasCleanDisk end → (F : Farm) → IsSoundFirst F → Stands old (first_rows_of F) → LeavesEither end (first_rows_of F) (rows_of F)
      left is F sound_first at =
          let same = farm_is (early is) F sound_first at in
          subst (λ G. LeavesEither end (first_rows_of G) (rows_of G)) same (stops is (stood is F at same))

      no_others : {X : Type 0} → HasCleanDisk end → (T : TableRows) → Stands old T → ((F : Farm) → IsSoundFirst F → T ≢ first_rows_of F) → X
      no_others is T at others = absurd (others (farm_of rows) first (sym ((good (early is)).rows T at)))

      pub written : old.now.schema ≡ farm_schema
          → (HasCleanDisk end → Stands mid (first_rows_of (farm_of rows)) → Stands end (rows_of (farm_of rows)))
          → Migrates old end done
      written shows puts = record {
        autocommit = outside;
        clean = omega (arith, only.clean, keeps);
        ok = λ is F sound_first at.
            let same = farm_is (early is) F sound_first at in
            subst (λ G. Stands end (rows_of G)) same (puts is (stood is F at same));
        only = λ is T at. (farm_of rows, first, sym ((good (early is)).rows T at));
        ours = shows;
        stop = left;
        others = λ is T at alone. no_others is T at alone;
        rests = λ is other. tt;
        bad = λ is e. absurd (let h = e in cc);
        newer = λ is e. absurd (let h = e in cc);
        known = λ is T at newer. ok_is_no_err was (((reads (early is)).schema T at).known newer);
        other = λ is T at new older. ok_is_no_err was (((reads (early is)).schema T at).other new older);
        version = λ is. looked (early is) None (λ e. let h = e in cc);
        fault = tt;
      }

      pub not_written : (s : Answer) (fault : StoreFault) → IsErrAnd s (λ f. f ≡ fault_of_store fault)
          → (fault ≡ StoreFault.NoMemory) ⊎ (fault ≡ StoreFault.Store) → (fault ≡ StoreFault.NoMemory → end ≡ mid) → Migrates old end s
      not_written s fault reported which memory =
          let own : IsOwnFault (fault_of_store fault) = for_own IsOwnFault tt tt fault which in
          subst (λ (q : Answer). Migrates old end q) (sym (err_is s (fault_of_store fault) reported)) (record {
            autocommit = outside;
            clean = omega (arith, only.clean, keeps);
            ok = λ is. tt;
            only = λ is. tt;
            ours = tt;
            stop = left;
            others = λ is T at alone. no_others is T at alone;
            rests = λ is other T at. elim which [
              | inl same ↦ subst (λ (e : State). Stands e T) (sym (memory same)) (only.stands (early is) _ T at)
              | inr same ↦ absurd (other (ap (λ e. Err (fault_of_store e)) same))
            ];
            bad = λ is e. absurd (subst IsOwnFault (same_err e refl) own);
            newer = λ is e. absurd (subst IsOwnFault (same_err e refl) own);
            known = λ is T at newer. ok_is_no_err was (((reads (early is)).schema T at).known newer);
            other = λ is T at new older. ok_is_no_err was (((reads (early is)).schema T at).other new older);
            version = λ is. looked (early is) (Some (fault_of_store fault)) (λ e. subst IsOwnFault (same_Some _ _ e) own);
            fault = for_own IsMigrateFault tt tt fault which;
          })

-- the six tables of a sound farm's rows are made anew
module _ (mid end : State) (rows : Rows) (sound : IsSound (farm_of rows)) where
  sees_six : (T : TableRows) → Stands mid T → SeesSixTables mid
  sees_six T at open_is =
      let same = (at.shown open_is).schema in
      (farm_columns.types, farm_columns.boards, farm_columns.jobs, farm_columns.reservations, farm_columns.kept, meta_table.columns, same)

  pub made_anew : (HasCleanDisk end → SeesSixTables mid → Stands end (rows_of (put_rows empty_farm rows)))
      → HasCleanDisk end → Stands mid (first_rows_of (farm_of rows)) → Stands end (rows_of (farm_of rows))
  made_anew ok clean at = subst (λ F. Stands end (rows_of F)) (rows_are rows sound) (ok clean (sees_six (first_rows_of (farm_of rows)) at))

  pub left_anew : (HasCleanDisk end → SeesSixTables mid → (db : Trees) → end.may_leave db
      → mid.may_leave db ⊎ Holds db (rows_of (put_rows empty_farm rows)))
      → HasCleanDisk end → Stands mid (first_rows_of (farm_of rows)) → LeavesEither end (first_rows_of (farm_of rows)) (rows_of (farm_of rows))
  left_anew stop clean at db may = elim (stop clean (sees_six (first_rows_of (farm_of rows)) at) db may) [
    | inl before ↦ inl (at.left db before)
    | inr made ↦ inr (subst (λ F. Holds db (rows_of F)) (rows_are rows sound) made)
  ]

-- where a farm stands in either edition
pub own_fault : (f : KeepFault) → IsMigrateFault f → f ≢ KeepFault.BadStore → f ≢ KeepFault.NewSchema → IsOwnFault f
own_fault KeepFault.NoMemory may good ours = tt
own_fault KeepFault.Store may good ours = tt
own_fault KeepFault.BadStore may good ours = absurd (good refl)
own_fault KeepFault.NewSchema may good ours = absurd (ours refl)
own_fault KeepFault.OldSchema may good ours = absurd may
own_fault KeepFault.Closed may good ours = absurd may

-- ---- a store that stands for a farm's tables of the one edition or of the other

abbrev pub StandsEither : State → Farm → Type 0
StandsEither s F = Stands s (first_rows_of F) ⊎ Stands s (rows_of F)

pub stands_either : (s : State) (left : Trees) (F : Farm) → ((T : TableRows) → Holds s.committed.trees T → Stands s T) → s.committed.trees ≡ left → HoldsEitherEdition left F → StandsEither s F
stands_either s left F opened on (inl first) = inl (opened (first_rows_of F) (subst (λ (t : Trees). Holds t (first_rows_of F)) (sym on) first))
stands_either s left F opened on (inr second) = inr (opened (rows_of F) (subst (λ (t : Trees). Holds t (rows_of F)) (sym on) second))

-- what a migration leaves of it
module _ {old mid : State} {r : Answer} (made : Migrates old mid r) (clean : HasCleanDisk mid) (F : Farm) (sound : IsSoundFirst F) where
  pub left_either : StandsEither old F → (db : Trees) → mid.may_leave db → HoldsEitherEdition db F
  left_either (inl first) db may = made.stop clean F sound first db may
  left_either (inr second) db may = inr ((made.others clean (rows_of F) second (λ G is. editions_apart F G)).left db may)

  -- done, or refused as new, it leaves this edition's tables
  pub raised_stands : r ≡ Ok tt → StandsEither old F → Stands mid (rows_of F)
  raised_stands was (inl first) = (subst (λ (q : Answer). Migrates old mid q) was made).ok clean F sound first
  raised_stands was (inr second) = ok_is_no_err was (made.known clean (rows_of F) second (rows_are_new F))

  pub new_stands : r ≡ Err KeepFault.NewSchema → StandsEither old F → Stands mid (rows_of F)
  new_stands was (inl first) = absurd (first_rows_are_old F (made.newer clean was (first_rows_of F) first))
  new_stands was (inr second) = (subst (λ (q : Answer). Migrates old mid q) was made).rests clean (λ e. let h = e in cc) (rows_of F) second

  -- it is never refused as bad
  pub never_bad : r ≡ Err KeepFault.BadStore → StandsEither old F → ⊥
  never_bad was (inl first) = made.bad clean was F sound first
  never_bad was (inr second) = elim (made.known clean (rows_of F) second (rows_are_new F)) [
    | inl is ↦ let e = sym was ∙ is in cc
    | inr is ↦ let e = sym was ∙ is in cc
  ]
