-- What a statement did in a transaction, where it is done.
use Rattle.std.proofs.Common.{ℕ, List, IsTrue, Result, Ok, Err, OnOk}
use Rattle.farm_store.proofs.Names.{Error, Row}
use Rattle.sqlite.specs.State.{State, ExecutesInside}

pub on_executed : (sql : List ℕ) (params : Row) (old new : State) {P : Type 0} (r : Result ℕ Error) → (IsTrue old.in_transaction → ExecutesInside 0 sql params old new r)
    → ((count : ℕ) → (IsTrue old.in_transaction → ExecutesInside 0 sql params old new (Ok count)) → P) → OnOk r P
on_executed sql params old new (Ok count) ran so = so count ran
on_executed sql params old new (Err e) ran so = tt
