use Rattle.std.proofs.Common.{refl}
use Rattle.std.specs.Char.{encode_utf8}
use Rattle.std.specs.Str.{is_utf8, chars}
use Rattle.farm_types.specs.Names.{is_proper_cmd, is_tag, is_tags, is_word}
use Rattle.farm_worked.proofs.laws.words_as_worked.Goals as goal

pub returns : goal.returns
unfolding is_proper_cmd is_word is_tag is_tags is_utf8 chars encode_utf8
returns c = record {
  least_frequency = refl;
  most_hours = refl;
  most_jobs = refl;
  no_hours = refl;
  no_jobs = refl;
  too_many_hours = refl;
  too_many_jobs = refl;
  a_long_name = refl;
  a_longer_name = refl;
  no_name = refl;
  a_space = refl;
  the_most_tags = refl;
  too_many_tags = refl;
  tags_out_of_order = refl;
  a_tag_twice = refl;
  a_long_tag = refl;
  a_longer_value = refl;
  a_longer_key = refl;
  a_name_tag = refl;
  the_bare_name_tag = refl;
  a_name_tag_in_a_want = refl;
  the_lowest_priority = refl;
  the_highest_priority = refl;
  a_higher_priority = refl;
  a_reservation_too_high = refl;
  no_wants = refl;
  four_wants = refl;
  five_wants = refl;
  a_want_without_a_type = refl;
  a_role_too_few = refl;
  a_role_with_a_space = refl;
  a_text = refl;
  a_long_text = refl;
  a_longer_text = refl;
  no_utf8 = refl;
  canceled_by_name = refl;
  by_the_lab = refl;
  a_long_key = refl;
  a_key_too_long = refl;
  no_caller = refl;
}
