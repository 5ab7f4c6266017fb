use Rattle.std.proofs.lemmas.Result.{IfOk-weaker}
use Rattle.sqlite_wal.specs.Files.{image_at}
use Rattle.farm_desk.proofs.files.open_farm.Goals as goal

pub returns-clause-found : goal.returns-clause-found
returns-clause-found g c = rw c.inspect_err.ensures.value at
    (IfOk-weaker c.find_carried.result _ _ (λ k found. found (image_at g.S.Start) c.in_ok-opened.ensures.opens) c.find_carried.ensures.found)

pub returns-clause-alone : goal.returns-clause-alone
returns-clause-alone g c = rw c.inspect_err.ensures.value at
    (IfOk-weaker c.find_carried.result _ _ (λ k alone. alone (image_at g.S.Start) c.in_ok-opened.ensures.opens) c.find_carried.ensures.alone)
