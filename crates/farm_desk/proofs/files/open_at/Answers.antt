-- What was opened is as it was then.
use Rattle.std.proofs.Common.{ℕ, Bool, cond, List, IfSome, ap₂, subst}
use Rattle.sqlite_disk.specs.Events.{Event, replay}
use Rattle.sqlite_wal.specs.Recovery.{Image}
use Rattle.farm_desk.specs.InFiles.{OpensFiles}
use Rattle.farm_desk.proofs.files.open_at.Goals as goal

abbrev image : List ℕ → List ℕ → Image
image log db = record { log = log; db = db }

abbrev seen : List ℕ → List ℕ → Bool → List Event → List ℕ
seen log db is_log history = (replay (cond is_log log db) history).seen

pub returns-clause-opens : goal.returns-clause-opens
returns-clause-opens g c =
    let log = c.in-Ok.ensures.fresh.0 in
    let db = c.in-Ok.ensures.fresh.1 in
    let same = ap₂ image (ap₂ (seen g.S.Start.log g.S.Start.db) log.0 log.1) (ap₂ (seen g.S.Start.log g.S.Start.db) db.0 db.1) in
    subst (λ (i : Image). IfSome c.open_over.result (OpensFiles i)) same c.open_over.ensures.opens
