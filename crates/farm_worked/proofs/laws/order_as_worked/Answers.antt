use Rattle.std.proofs.Common.{refl}
use Rattle.farm_types.specs.Names.{answer, change, early_refusal, is_tag, is_tags, is_word, least, own_refusal, refusal, step}
use Rattle.farm_worked.specs.Order.{types_and_boards, four_members}
use Rattle.farm_worked.proofs.laws.order_as_worked.Goals as goal

pub returns : goal.returns
unfolding types_and_boards four_members is_word is_tag is_tags least refusal early_refusal own_refusal change answer step
returns c = record {
  types_and_boards_answers = refl;
  types_and_boards_leaves = refl;
  four_members_answers = refl;
  four_members_boards = refl;
  four_members_jobs = refl;
  four_members_next = refl;
}
