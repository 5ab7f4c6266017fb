use Rattle.std.proofs.Math.Logic.{∥∥₁_map}
use Rattle.sqlite.proofs.Theorems.{opens_again}
use Rattle.farm_desk.proofs.FileLemmas.{either_held}
use Rattle.farm_desk.proofs.laws.upgraded_files_hold.Goals as goal

pub returns : goal.returns
returns g c = λ clean F either image may.
    let it = c.into_store.result in
    let was = c.into_store.ensures in
    ∥∥₁_map (opens_again it (was.numbered clean) (was.sound clean) image may) (λ db.
    either_held image F db.0 db.2 (either db.0 (was.quiet.outcomes db.0 db.1)))
