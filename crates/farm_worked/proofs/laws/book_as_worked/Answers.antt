use Rattle.std.proofs.Common.{◌==◌, is_ok, refl, sym, ap}
use Rattle.std.proofs.lemmas.Bool.{true≢false, le-leb}
use Rattle.std.proofs.Math.Dec.{lit≤}
use Rattle.std.specs.Fmt.{digits}
use Rattle.farm_types.specs.Names.{answer, change, early_refusal, is_tag, is_tags, is_word, least, own_refusal, refusal, step, tags_among, tags_of, tags_read}
use Rattle.farm_worked.specs.Book.{reasons_in_order}
use Rattle.farm_worked.proofs.laws.book_as_worked.Goals as goal

pub returns-clause-words : goal.returns-clause-words
unfolding is_word is_tag
returns-clause-words c = record {
  these_are_names = refl;
  these_are_tags = refl;
  these_are_no_tags = refl;
  capital_first = refl;
  b10_before_b2 = refl;
}

pub returns-clause-tables : goal.returns-clause-tables
returns-clause-tables c = record {
  row_is_added = refl;
  row_takes_its_place = refl;
  one_key_of_two_callers = refl;
}

pub returns-clause-readers : goal.returns-clause-readers
unfolding is_word is_tag
returns-clause-readers c = record {
  name_is_read = refl;
  bad_name_is_refused = refl;
  bad_name_is_not_read = λ read. true≢false (ap is_ok read);
  name_is_not_refused = λ read. true≢false (sym (ap is_ok read));
  tag_is_read = refl;
  bad_tag_is_refused = refl;
  bad_tag_is_not_read = λ read. true≢false (sym (ap is_ok read));
  tag_is_not_refused = λ read. true≢false (ap is_ok read);
  memory_ran_out = tt;
  first_fault_stands = refl;
}

pub returns-clause-tags : goal.returns-clause-tags
unfolding is_word is_tag tags_of tags_among tags_read
returns-clause-tags c = record {
  tags_in_order = refl;
  seventeen_times_usb = refl;
  sixteen_times_usb = refl;
  seventeen_bad_tags = refl;
  bad_tag_among_others = refl;
  text_of_tags = refl;
  text_is_read = refl;
  text_out_of_order = refl;
  text_with_a_double = refl;
  text_of_no_tags = refl;
}

pub returns-clause-codes : goal.returns-clause-codes
returns-clause-codes c = record {
  code_of_scheduling = refl;
  state_with_code_1 = refl;
  state_with_code_6 = refl;
  outcome_with_code_0 = refl;
  word_of_scheduling = refl;
}

pub returns-clause-called : goal.returns-clause-called
unfolding digits
returns-clause-called c = record {
  health_called_good = refl;
  outcome_called_canceled = refl;
  priorities_called = refl;
  holders_called = refl;
}

pub returns-clause-refusals : goal.returns-clause-refusals
returns-clause-refusals c = record {
  line_of_14 = refl;
  line_of_62 = refl;
  line_of_8 = refl;
  reason_of_409 = refl;
}

pub returns-clause-farms : goal.returns-clause-farms
returns-clause-farms c = record {
  members_of_a_group = refl;
  no_job_of_that_number = refl;
  owner_of_that_reservation = refl;
}

pub returns-clause-picks : goal.returns-clause-picks
unfolding least
returns-clause-picks c = record {
  what_b1_fits = refl;
  what_b2_fits = refl;
  what_serves = refl;
  what_serves_with_checks = refl;
  held_is_not_free = refl;
  lists_that_meet = refl;
  names_before_names = refl;
  first_that_meets = refl;
  none_that_meets = refl;
  queue_of_four = refl;
  collector_waits_still = refl;
}

pub returns-clause-passes : goal.returns-clause-passes
returns-clause-passes c = record {
  due_by_hours = refl;
  due_by_jobs = refl;
  who_is_due = refl;
  collector_goes_first = refl;
}

pub returns-clause-reasons : goal.returns-clause-reasons
unfolding reasons_in_order is_word is_tag is_tags least refusal early_refusal own_refusal change answer step
returns-clause-reasons c = record {
  reasons_in_order_answers = refl;
  reasons_in_order_leaves = refl;
}

pub returns-clause-sound : goal.returns-clause-sound
returns-clause-sound c = record {
  what_is_held = refl;
  held_twice = λ held. held.once.0.0 refl;
  started_in_part = λ whole. true≢false (sym (ap (λ n. n == 2) (whole.0.1.0 refl)));
}

pub returns-clause-small : goal.returns-clause-small
returns-clause-small c = record {
  numbers_of_checks = refl;
  numbers_of_holders = refl;
  greatest_number = lit≤ tt;
  one_beyond = λ small. true≢false (sym (le-leb _ _ small));
}
