-- What a call does inside a transaction.
use Rattle.std.specs.Prelude.{◌≡◌, IsTrue, ℕ, List, [], Ok, OnOk, Result}
use Rattle.sqlite.specs.Held.{state}
use Rattle.sqlite.specs.State.{State, HasCleanDisk, Survives, Executes}
use Rattle.sqlite.specs.declared.transaction.Transaction.{Transaction}
use Rattle.sqlite_trees.specs.declared.store.Store.{Ghosts}
use Rattle.farm_store.specs.Columns.{TableRows}
use Rattle.farm_store.specs.Holds.{IsInside}

-- where it answers Ok, the tables are changed so
abbrev pub ChangesTables : {A E : Type 0} → Result A E → State → State → (TableRows → TableRows)
    → Type 0
ChangesTables result old new change = HasCleanDisk new
    → OnOk result ((T : TableRows) → IsInside old T → IsInside new (change T))

-- where it answers Ok, the transaction goes on, and the connection is open
abbrev pub StaysOpen : {A E : Type 0} → Result A E → State → State → Type 0
StaysOpen result old new = HasCleanDisk new → OnOk result (IsTrue old.in_transaction
    → IsTrue new.in_transaction × IsTrue new.is_open)

-- it commits nothing
abbrev pub CommitsNothing : State → State → Type 0
CommitsNothing old new = Survives old new (λ _. ⊥)

module _ {S : Type 0} (g : Ghosts S) where
  -- what a call in a transaction keeps, done or refused: it is the same connection's, nothing was
  -- committed, and no fault of the disk was forgotten
  pub record GoesOn (old new : Transaction S) : Type 0 where
    pub same_reference : new.conn.ghost_name ≡ old.conn.ghost_name
    pub survives : CommitsNothing (state g old.conn.now) (state g new.conn.now)

-- the text ran in a transaction
abbrev pub HasRun : List ℕ → State → State → Type 0
HasRun sql old new = (count : ℕ) × Executes sql [] old new (Ok count) × IsTrue old.is_open
    × IsTrue new.is_open × IsTrue new.in_transaction
