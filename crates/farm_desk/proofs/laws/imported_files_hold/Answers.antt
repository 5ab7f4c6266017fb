use Rattle.std.proofs.Common.{subst, arith}
use Rattle.std.proofs.Math.Logic.{∥∥₁_map}
use Rattle.sqlite.proofs.Theorems.{opens_again}
use Rattle.sqlite.specs.Files.{file_state, over_files}
use Rattle.sqlite.specs.Held.{Held}
use Rattle.sqlite.specs.State.{HasCleanDisk}
use Rattle.sqlite_store.specs.FileStore.{recovers}
use Rattle.farm_serve.specs.Stops.{GivesImported}
use Rattle.farm_serve.proofs.StopLemmas.{import_given}
use Rattle.farm_desk.specs.InFiles.{HoldsFarm}
use Rattle.farm_desk.proofs.laws.imported_files_hold.Goals as goal

pub returns : goal.returns
returns g c = λ clean old text now end keeps imports image may.
    let it = c.into_store.result in
    let k = c.args.keeper in
    let was = c.into_store.ensures in
    let conn = c.into_connection.ensures.conn in
    let late : HasCleanDisk (file_state c.into_connection.result) = omega (arith, was.quiet.clean, clean) in
    let early : HasCleanDisk (file_state k.conn) = subst (λ (h : Held _). HasCleanDisk (file_state h)) conn late in
    ∥∥₁_map (opens_again it (was.numbered clean) (was.sound clean) image may) (λ db.
    let before : recovers k.conn.store db.0 = subst (λ (h : Held _). recovers h.store db.0) conn (was.quiet.outcomes db.0 db.1) in
    let held : GivesImported (HoldsFarm image) old.farm.farm text now end end.fault =
    import_given over_files old k text now end end.fault (HoldsFarm image) db.0 imports keeps early before (λ done holds. record { trees = db.0; database = db.2; holds = holds }) in
    held)
