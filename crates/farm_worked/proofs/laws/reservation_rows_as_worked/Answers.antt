use Rattle.std.proofs.Common.{refl}
use Rattle.farm_types.specs.Names.{answer, change, early_refusal, is_tag, is_tags, is_word, least, own_refusal, refusal, step}
use Rattle.farm_worked.specs.Reservations.{one_counter, lease_begins, one_is_acquired, lease_goes_on, lease_is_over}
use Rattle.farm_worked.proofs.laws.reservation_rows_as_worked.Goals as goal

pub returns : goal.returns
unfolding one_counter lease_begins one_is_acquired lease_goes_on lease_is_over is_word is_tag is_tags least refusal early_refusal own_refusal change answer step
returns c = record {
  one_counter_answers = refl;
  one_counter_leaves = refl;
  lease_begins_answers = refl;
  lease_begins_leaves = refl;
  one_is_acquired_answers = refl;
  one_is_acquired_leaves = refl;
  lease_goes_on_answers = refl;
  lease_goes_on_leaves = refl;
  lease_is_over_answers = refl;
  lease_is_over_leaves = refl;
}
