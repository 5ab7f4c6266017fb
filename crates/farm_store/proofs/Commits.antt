-- What a transaction begins with, and what its commit leaves.
use Rattle.std.proofs.Common.{refl, inl, inr, ◌≡◌, false, sym, ap, subst, ◌∙◌, true}
use Rattle.farm_store.proofs.Names.{CommitShows, Database, Held, Holds, IsInside, ShowsTables, Stands, state, TableRows, Trees}
use Rattle.sqlite.specs.State.{State, HasCleanDisk, IsRolledBack, Shows, Survives}
use Rattle.sqlite_trees.specs.declared.store.Store.{Ghosts}

pub begun : {S : Type 0} (g : Ghosts S) (old mid : Held S) → mid ≡ record old { in_transaction = true } → (T : TableRows) → Stands (state g old) T → IsInside (state g mid) T
begun g old mid is T at = subst (λ h. IsInside (state g h) T) (sym is) (record { inside = refl; shown = at.shown })

-- an open connection leaves its last commit alone, and that is what the transaction saw
pub committed : (mid end : State) (T : TableRows) → IsInside mid T → Shows mid end mid.now mid.now false → ((db : Trees) → end.may_leave db → db ≡ end.committed.trees) → Stands end T
committed mid end T at shown settled =
    let see = at.shown shown.was_open in
    record {
      autocommit = shown.mode;
      same = λ still_open. shown.now_is ∙ sym shown.committed_is;
      shown = λ still_open. subst (λ d. ShowsTables d T) (sym shown.now_is) see;
      left = λ db may. subst (λ (t : Trees). Holds t T) (sym (settled db may ∙ ap (λ (d : Database). d.trees) shown.committed_is)) see.holds;
    }

-- what a call that commits nothing leaves, was left before
pub left_before : (old new : State) → Survives old new (λ _. ⊥) → HasCleanDisk new → (db : Trees) → new.may_leave db → old.may_leave db
left_before old new survives clean db may = elim (survives.crash clean db may) [ inl before ↦ before | inr none ↦ absurd none ]

pub begun_commit : {S : Type 0} (g : Ghosts S) (old mid : Held S) → mid ≡ record old { in_transaction = true } → (T : TableRows) → Stands (state g old) T → CommitShows (state g mid) T
begun_commit g old mid is T at = subst (λ h. CommitShows (state g h) T) (sym is) (λ still_open. subst (λ d. ShowsTables d T) (at.same still_open) (at.shown still_open))

-- a transaction that is rolled back goes back to the last commit
pub rolled_back : (mid end : State) (T : TableRows) → CommitShows mid T → IsRolledBack mid end → ((db : Trees) → end.may_leave db → Holds db T) → Stands end T
rolled_back mid end T shows undone left = record {
  autocommit = undone.autocommit;
  same = λ still_open. (undone.undone still_open).0 ∙ sym (undone.undone still_open).1;
  shown = λ still_open. subst (λ d. ShowsTables d T) (sym (undone.undone still_open).0) (shows (undone.was_open still_open));
  left = left;
}
