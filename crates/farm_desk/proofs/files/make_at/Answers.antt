use Rattle.std.proofs.lemmas.Result.{IfOk-weaker}
use Rattle.sqlite_wal.specs.Files.{image_at}
use Rattle.farm_desk.proofs.files.make_at.Goals as goal

pub returns-clause-made : goal.returns-clause-made
returns-clause-made g c = rw c.inspect_err.ensures.value at
    (IfOk-weaker c.new_farm_on.result _ _ (λ k made. made (image_at g.S.Start) c.in_ok-conn.ensures.opens.shows) c.new_farm_on.ensures.made)
