use Rattle.std.proofs.lemmas.Result.{IfOk-weaker}
use Rattle.farm_desk.proofs.FileLemmas.{makes_farm}
use Rattle.farm_desk.proofs.files.new_farm_on.Goals as goal

pub returns-clause-made : goal.returns-clause-made
returns-clause-made g c =
    IfOk-weaker c.make.result _ _ (λ k made image shows. makes_farm image c.args.conn k made shows) c.make.ensures.made
