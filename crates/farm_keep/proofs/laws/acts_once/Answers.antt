use Rattle.std.proofs.Common.{◌==◌, ◌∙◌, sym}
use Rattle.farm_types.specs.Names.{is_late, kind_of}
use Rattle.farm_keep.proofs.KeptLemmas.{again_kept}
use Rattle.farm_keep.proofs.RestartLemmas.{again_no_change}
use Rattle.farm_keep.proofs.laws.acts_once.Goals as goal

pub returns : goal.returns
returns c = record {
  again = λ F restarts before between after first call key reply is.
      again_kept F before between first call key reply is.keyed is.same_key is.same_caller is.accepted;
  once = λ F restarts before between after first call key reply other is changed.
      again_no_change (is_late call) (kind_of first.cmd == kind_of call.cmd) reply other
      (sym (again_kept F before between first call key reply is.keyed is.same_key is.same_caller is.accepted) ∙ changed);
}
