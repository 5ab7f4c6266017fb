use Rattle.std.proofs.Common.{subst}
use Rattle.farm_types.specs.Names.{Farm}
use Rattle.farm_keep.specs.KeeperState.{KeepsFarm}
use Rattle.farm_desk.proofs.FileLemmas.{makes_free}
use Rattle.farm_desk.proofs.files.make.Goals as goal

pub returns-clause-made : goal.returns-clause-made
returns-clause-made g c =
    let made = c.in_ok-keeper.ensures in
    record {
      opened = made.opened.0;
      farm = made.opened.1;
      keeps = subst (λ (F : Farm). KeepsFarm g.S.Store c.in_ok-keeper.keeper F) made.opened.1 (made.keeps made.bare);
      clean = made.clean;
      bare = made.bare;
      free = λ clean. makes_free g.S.Store c.args.conn c.opened_stands.ensures (made.refused clean);
    }
