use Rattle.std.proofs.Common.{subst, arith}
use Rattle.std.proofs.Math.Logic.{∥∥₁_map}
use Rattle.sqlite.proofs.Theorems.{opens_again}
use Rattle.sqlite.specs.Files.{file_state, over_files}
use Rattle.sqlite.specs.Held.{Held}
use Rattle.sqlite.specs.State.{HasCleanDisk}
use Rattle.sqlite_store.specs.FileStore.{recovers}
use Rattle.farm_serve.proofs.StopLemmas.{served_left}
use Rattle.farm_desk.specs.InFiles.{HoldsServed}
use Rattle.farm_desk.proofs.laws.served_files_hold.Goals as goal

pub returns : goal.returns
returns g c = λ clean old connections keeps served image may.
    let it = c.into_store.result in
    let k = c.args.keeper in
    let was = c.into_store.ensures in
    let conn = c.into_connection.ensures.conn in
    let late : HasCleanDisk (file_state c.into_connection.result) = omega (arith, was.quiet.clean, clean) in
    let early : HasCleanDisk (file_state k.conn) = subst (λ (h : Held _). HasCleanDisk (file_state h)) conn late in
    ∥∥₁_map (opens_again it (was.numbered clean) (was.sound clean) image may) (λ db.
    let before : recovers k.conn.store db.0 = subst (λ (h : Held _). recovers h.store db.0) conn (was.quiet.outcomes db.0 db.1) in
    let left = served_left over_files g.K.Reader.Input.never_fails connections old k db.0 served keeps early before in
    let held : HoldsServed image old.farm.farm connections = record { done = left.done; does = left.does; holds = record { trees = db.0; database = db.2; holds = left.holds } } in
    held)
