use Rattle.std.proofs.Common.{refl}
use Rattle.farm_types.specs.Names.{answer, change, early_refusal, is_tag, is_tags, is_word, least, own_refusal, refusal, step}
use Rattle.farm_worked.specs.Checks.{check_is_made, check_ends_well, lab_fault, board_is_retired}
use Rattle.farm_worked.proofs.laws.check_rows_as_worked.Goals as goal

pub returns : goal.returns
unfolding check_is_made check_ends_well lab_fault board_is_retired is_word is_tag is_tags least refusal early_refusal own_refusal change answer step
returns c = record {
  check_is_made_answers = refl;
  check_is_made_leaves = refl;
  check_ends_well_answers = refl;
  check_ends_well_leaves = refl;
  lab_fault_answers = refl;
  lab_fault_leaves = refl;
  board_is_retired_answers = refl;
  board_is_retired_leaves = refl;
}
