use Rattle.std.proofs.Common.{refl}
use Rattle.farm_types.specs.Names.{answer, change, early_refusal, is_tag, is_tags, is_word, least, own_refusal, refusal, step}
use Rattle.farm_worked.specs.Kept.{refused_under_a_key}
use Rattle.farm_worked.specs.WorkedWhole.{every_kind}
use Rattle.farm_worked.proofs.laws.kept_as_worked.Goals as goal

pub returns : goal.returns
unfolding every_kind refused_under_a_key is_word is_tag is_tags least refusal early_refusal own_refusal change answer step
returns c = record {
  every_kind_answers = refl;
  every_kind_kept = refl;
  refused_under_a_key_answers = refl;
  refused_under_a_key_kept = refl;
}
