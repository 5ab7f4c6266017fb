-- The words of the farm in one place, for the crates above.
pub use Rattle.farm_types.specs.Called.{check_by, claim_word, health_called, holder_text, medium_priority, outcome_called, priority_called, unit_called}
pub use Rattle.farm_types.specs.Called.{unit_of, unit_word}
pub use Rattle.farm_types.specs.Change.{act, after_check, after_job, cancel_group, Done, done_with, farm_at_call, finish_one, graded_board, in_state}
unfoldable pub use Rattle.farm_types.specs.Change.{change}
pub use Rattle.farm_types.specs.Change.{is_unstarted, keep, new_board, new_members, new_res, reply_of, start_group}
pub use Rattle.farm_types.specs.Codes.{health_code, health_word, job_state_code, job_state_with, job_state_word, outcome_code, outcome_with}
pub use Rattle.farm_types.specs.Codes.{outcome_word, res_state_code, res_state_word, same_health, same_job_state, same_outcome, same_res_state}
pub use Rattle.farm_types.specs.Codes.{state_code, state_word}
pub use Rattle.farm_types.specs.Farm.{board_of, empty_farm, Farm, farm_of, job_of, kept_of, members, put_board, put_jobs, put_kept, put_res, put_rows, put_type}
pub use Rattle.farm_types.specs.Farm.{res_of, status_of, type_of}
pub use Rattle.farm_types.specs.Limits.{are_few_wants, highest_priority, is_every, is_priority, last_kind, last_moment, lease, longest_body, longest_head}
pub use Rattle.farm_types.specs.Limits.{longest_job_file, longest_key, longest_lab_file, longest_name, longest_text, most_boards, most_boards_of_type}
pub use Rattle.farm_types.specs.Limits.{most_commands, most_fields, most_jobs, most_jobs_since, most_replies, most_reservations, most_wants}
pub use Rattle.farm_types.specs.Limits.{numbers_end}
pub use Rattle.farm_types.specs.Machine.{answer_by, Answered, Changed, Denied, Repeated, repeated_reply, run, step_by}
unfoldable pub use Rattle.farm_types.specs.Machine.{answer, step}
pub use Rattle.farm_types.specs.Pass.{allocated_reservation, change_jobs, change_res, check_job, check_one, checks, claims_taken, collect, collect_member}
pub use Rattle.farm_types.specs.Pass.{expire, first_free, freed_board, give, give_group, give_member, give_res, giving_back, has_room, held_board, is_dead}
pub use Rattle.farm_types.specs.Pass.{is_due, is_due_by, is_group, is_job_so, is_reached, is_res_so, may_collect, new_job, pass_over, placed_job, serve}
pub use Rattle.farm_types.specs.Pass.{serve_all, Served, unplaced_job, with_board}
pub use Rattle.farm_types.specs.Pick.{are_apart, AreAmong, board_lists, check_of, claim_cmp, Claimed, claims, fits, group_claim, is_checked, is_free, is_nobody}
pub use Rattle.farm_types.specs.Pick.{is_waiting, IsAmong, IsLeast, leads_claim, meets, names_cmp, not_retired, queue, res_claim, serves, shown_claim}
unfoldable pub use Rattle.farm_types.specs.Pick.{least}
pub use Rattle.farm_types.specs.Pick.{shown_cmp, waits}
pub use Rattle.farm_types.specs.Proper.{has_no_name_tag, is_frequency, is_proper, is_want}
unfoldable pub use Rattle.farm_types.specs.Proper.{is_proper_cmd}
pub use Rattle.farm_types.specs.Reads.{by_code, FaultOrNoMemory, OrNoMemory, refused_code, ◌>>=◌}
pub use Rattle.farm_types.specs.Refusals.{bad_coding, bad_count, bad_job_file, bad_key, bad_lab_file, bad_moment, bad_name, bad_priority, bad_request}
pub use Rattle.farm_types.specs.Refusals.{bad_store, bad_tag, board_exists, board_is_held, board_is_retired, closed, forbidden, http_status_of, key_reused}
pub use Rattle.farm_types.specs.Refusals.{line_of, new_schema, no_board, no_job, no_memory, no_reservation, no_route, no_such_boards, no_type, old_schema}
pub use Rattle.farm_types.specs.Refusals.{read_fault, reason_of, refusal_text, reservation_expired, store_fault, too_large, type_exists, write_fault}
pub use Rattle.farm_types.specs.Refusals.{wrong_job_state, wrong_method, wrong_reservation_state}
pub use Rattle.farm_types.specs.Refuse.{can_cancel, first_code, is_alive, is_full, is_full_for, is_late, is_retired, is_reused, job_is, kept_for}
unfoldable pub use Rattle.farm_types.specs.Refuse.{early_refusal}
pub use Rattle.farm_types.specs.Refuse.{kind_of, may_give, moment, owned_by, reasons, RefusalTest, res_is, res_reasons}
unfoldable pub use Rattle.farm_types.specs.Refuse.{own_refusal, refusal}
pub use Rattle.farm_types.specs.Small.{AreSmall, every_of, held_by, IsSmall, IsSmallBoard, IsSmallJob, IsSmallKept, IsSmallRes, IsSmallType}
pub use Rattle.farm_types.specs.Sound.{AreGroupsInPhase, counts_of, Description, description_of, EachTwo, Follows, Hold, hold, hold_of, holds, IsBoardOf}
pub use Rattle.farm_types.specs.Sound.{IsBoardRow, IsCheck, IsCollecting, IsDescription, IsHeldBy, IsHeldByKeys, IsHeldOnce, IsJobRow, IsJobText, IsKeptRow}
pub use Rattle.farm_types.specs.Sound.{IsResRow, IsSound, IsSteady, IsSubmission, IsTypeRow, IsWithin, job_gives, job_hold, no_hold, phase, res_gives, res_hold}
pub use Rattle.farm_types.specs.Sound.{shown_hold, sizes_of, submission_of, texts_of}
pub use Rattle.farm_types.specs.Table.{board_cmp, change_where, job_cmp, kept_cmp, put, put_all, res_cmp, type_cmp}
pub use Rattle.farm_types.specs.Tags.{tags_text}
unfoldable pub use Rattle.farm_types.specs.Tags.{tags_among, tags_of, tags_read}
pub use Rattle.farm_types.specs.Words.{is_name_byte, IsKey, IsName, IsTag, IsTags, IsText, name_tag, rise, text_cmp, word_or}
unfoldable pub use Rattle.farm_types.specs.Words.{is_tag, is_tags, is_word}
