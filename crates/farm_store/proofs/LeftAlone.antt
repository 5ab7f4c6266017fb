-- What a call that only reads leaves of a connection.
use Rattle.std.proofs.Common.{[], inl, inr, ◌≡◌, ◌⊎◌, ◌++◌, ℕ, false, List, sym, subst, ◌∙◌, arith}
use Rattle.farm_store.proofs.Names.{AllByRecursion, AsksFor, Database, Error, IsWide, ReadsOnly, Row, ShowsTablesWith, StandsWith, TableColumns, TableRows}
use Rattle.farm_store.proofs.Names.{TableSlot, Trees}
use Rattle.sqlite.specs.State.{State, HasCleanDisk, Begins, FailsToQuery, IsNotRun, IsRolledBack, IsUnchanged, Shown, Survives}
use Rattle.farm_store.proofs.OnlyReads.{shown, shown_first}

-- it is as it was, or it went back to the last commit
abbrev pub IsLeft : State → State → Type 0
IsLeft old new = IsUnchanged old new ⊎ IsRolledBack old new

not_run_left : (sql : List ℕ) (params : Row) (old new : State) (e : Error) → IsNotRun old new sql params e → IsLeft old new
unfolding IsNotRun
not_run_left sql params old new e (inl h) = inl h.1
not_run_left sql params old new e (inr h) = inr h.3

-- a query that failed
pub failed_left : (sql : List ℕ) (params : Row) (old new : State) (e : Error) → FailsToQuery sql params old new e → IsLeft old new
unfolding FailsToQuery
failed_left sql params old new e (inl h) = not_run_left sql params old new e h
failed_left sql params old new e (inr h) = grind arith

stands : (old new : State) (columns : TableColumns) (T : TableRows) → IsLeft old new → new.in_transaction ≡ false → ((db : Trees) → new.may_leave db → old.may_leave db) → StandsWith columns old T → StandsWith columns new T
stands old new columns T (inl same) auto left at = record {
  autocommit = auto;
  same = λ still. same.0.now_is ∙ at.same same.0.was_open ∙ sym same.0.committed_is;
  shown = λ still. subst (λ (d : Database). ShowsTablesWith columns d T) (sym same.0.now_is) (at.shown same.0.was_open);
  left = λ db may. at.left db (left db may);
}
stands old new columns T (inr undone) auto left at = record {
  autocommit = auto;
  same = λ still. (undone.undone still).0 ∙ sym (undone.undone still).1;
  shown = λ still. let was = undone.was_open still in subst (λ (d : Database). ShowsTablesWith columns d T) (at.same was ∙ sym (undone.undone still).0) (at.shown was);
  left = λ db may. at.left db (left db may);
}

-- a call that commits nothing, begins no transaction, and leaves it so
pub reads_only : (old new : State) (Commits : Trees → Type 0) → Survives old new Commits → ((db : Trees) → ¬ Commits db) → new.in_transaction ≡ false → (HasCleanDisk new → IsLeft old new) → ReadsOnly old new
reads_only old new Commits survives none auto left =
    let no_more : HasCleanDisk new → (db : Trees) → new.may_leave db → old.may_leave db = λ clean db may. elim (survives.crash clean db may) [ inl before ↦ before | inr is ↦ absurd (none db is) ] in
    record {
      autocommit = auto;
      clean = survives.clean;
      left = no_more;
      stands = λ clean columns T at. stands old new columns T (left clean) auto (no_more clean) at;
    }

-- the disk was clean before
pub early : {old new : State} → ReadsOnly old new → HasCleanDisk new → HasCleanDisk old
early only clean = omega (arith, only.clean, clean)

-- over two calls
pub only_then : {old mid new : State} → ReadsOnly old mid → ReadsOnly mid new → ReadsOnly old new
only_then {old} {mid} {new} one two = record {
  autocommit = two.autocommit;
  clean = omega (arith, one.clean, two.clean);
  left = λ clean db may. one.left (early two clean) db (two.left clean db may);
  stands = λ clean columns T at. two.stands clean columns T (one.stands (early two clean) columns T at);
}

-- the tables that stood there are seen while nothing changes
pub sees : (columns : TableColumns) (first old : State) (T : TableRows) → IsUnchanged first old → StandsWith columns first T → ShowsTablesWith columns old.now T
sees columns first old T same at = subst (λ (d : Database). ShowsTablesWith columns d T) (sym same.0.now_is) (at.shown same.0.was_open)

module _ {columns : TableColumns} (p : TableSlot) (text : List ℕ) (asks : AsksFor columns p text) (old : State) (T : TableRows) (see : ShowsTablesWith columns old.now T) where
  -- what the query shows of them
  pub all_shown : (new : State) (rows : List Row) → Shown text [] old new rows → (rows ≡ p.rows T) × AllByRecursion (IsWide p.width) rows
  all_shown new rows h =
      let are = asks.all old.now T rows see (shown text asks.only_reads old new rows h).0 in
      (are, subst (AllByRecursion (IsWide p.width)) (sym are) (asks.wide old.now T see))

  -- and what it has shown so far
  pub some_shown : (rows : List Row) → Begins text [] old rows → (more : List Row) × (p.rows T ≡ rows ++ more)
  some_shown rows h = asks.first old.now T rows see (shown_first text asks.only_reads old rows h)
