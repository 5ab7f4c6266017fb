use Rattle.std.proofs.Common.{sym, ◌∙◌}
use Rattle.sqlite_wal.specs.Files.{image_at}
use Rattle.farm_keep.specs.Faults.{IsMigrateFault}
use Rattle.farm_desk.specs.InFiles.{IsUpgradeFault}
use Rattle.farm_desk.proofs.FileLemmas.{handed_err, handed_ok}
use Rattle.farm_desk.proofs.files.migrate_farm.Goals as goal

pub returns-clause-raised : goal.returns-clause-raised
returns-clause-raised g c =
    handed_ok c.raise_on.result c.inspect_err.result _ _ (sym c.inspect_err.ensures.value ∙ c.hand_on.ensures) c.raise_on.ensures.raised
    (λ new raised. raised (image_at g.S.Start) c.in_ok-conn.ensures.opens.shows)

pub returns-clause-fault : goal.returns-clause-fault
returns-clause-fault g c =
    handed_err c.raise_on.result c.inspect_err.result IsMigrateFault IsUpgradeFault (sym c.inspect_err.ensures.value ∙ c.hand_on.ensures) c.raise_on.ensures.fault (λ fault is. is)
