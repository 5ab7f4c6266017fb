use Rattle.std.proofs.Common.{refl}
use Rattle.farm_types.specs.Names.{answer, change, early_refusal, is_tag, is_tags, is_word, least, own_refusal, refusal, step}
use Rattle.farm_worked.specs.Groups.{group_asks, group_is_served, group_starts, one_member_ends, the_other_ends, canceled_while_it_waits, first_member_collects}
use Rattle.farm_worked.specs.Groups.{boards_are_taken_back, canceled_while_it_collects}
use Rattle.farm_worked.proofs.laws.groups_as_worked.Goals as goal

pub returns : goal.returns
unfolding group_asks group_is_served group_starts one_member_ends the_other_ends canceled_while_it_waits first_member_collects boards_are_taken_back canceled_while_it_collects is_word is_tag is_tags least refusal early_refusal own_refusal change answer step
returns c = record {
  group_asks_answers = refl;
  group_asks_leaves = refl;
  group_is_served_answers = refl;
  group_is_served_leaves = refl;
  group_starts_answers = refl;
  group_starts_leaves = refl;
  one_member_ends_answers = refl;
  one_member_ends_leaves = refl;
  the_other_ends_answers = refl;
  the_other_ends_leaves = refl;
  canceled_while_it_waits_answers = refl;
  canceled_while_it_waits_leaves = refl;
  first_member_collects_answers = refl;
  first_member_collects_leaves = refl;
  boards_are_taken_back_answers = refl;
  boards_are_taken_back_leaves = refl;
  canceled_while_it_collects_answers = refl;
  canceled_while_it_collects_leaves = refl;
}
