-- The names that the proofs share: rows, lists and tests.
pub use Rattle.farm_types.proofs.Put.{AllByRecursion-put, AllByRecursion-weaker, count_put, count_replaced, find_put, find_put_is, found_has, found_passes}
pub use Rattle.farm_types.proofs.Put.{length_put, put_sorted}
pub use Rattle.farm_types.specs.Farm.{board_of, empty_farm, Farm, job_of, members, put_board, put_jobs, put_kept, put_res, put_type, res_of, type_of}
pub use Rattle.farm_types.specs.declared.calls.Call.{Call}
pub use Rattle.farm_types.specs.declared.calls.Cmd.{Cmd}
pub use Rattle.farm_types.specs.declared.calls.Rows.{Rows}
pub use Rattle.farm_types.specs.declared.rows.BoardRow.{BoardRow}
pub use Rattle.farm_types.specs.declared.rows.Check.{Check}
pub use Rattle.farm_types.specs.declared.rows.Health.{Health}
pub use Rattle.farm_types.specs.declared.rows.Holder.{Holder}
pub use Rattle.farm_types.specs.declared.rows.JobRow.{JobRow}
pub use Rattle.farm_types.specs.declared.rows.JobState.{JobState}
pub use Rattle.farm_types.specs.declared.rows.KeptRow.{KeptRow}
pub use Rattle.farm_types.specs.declared.rows.Outcome.{Outcome}
pub use Rattle.farm_types.specs.declared.rows.Reply.{Reply}
pub use Rattle.farm_types.specs.declared.rows.ResRow.{ResRow}
pub use Rattle.farm_types.specs.declared.rows.ResState.{ResState}
pub use Rattle.farm_types.specs.declared.rows.State.{State}
pub use Rattle.farm_types.specs.declared.rows.TypeRow.{TypeRow}
pub use Rattle.farm_types.specs.declared.rows.Want.{Want}
pub use Rattle.std.proofs.lemmas.Bool.Decides.{nat_tests}
pub use Rattle.std.proofs.lemmas.Cmp.{ranked, tied_itself}
pub use Rattle.std.proofs.lemmas.Fn.{always_returns_same}
pub use Rattle.std.proofs.lemmas.List.{length-map}
pub use Rattle.std.proofs.lemmas.Map.Text.{is_eq-slice_cmp}
pub use Rattle.std.proofs.lemmas.Slice.Eq.{bytes_eq-Decides}
pub use Rattle.std.specs.Cmp.{IsTotalOrder, nat_cmp_total, on_total}
pub use Rattle.std.specs.Cmp.Lexicographic.{nat_list_cmp_total, nat_list_eq_equiv, pointwise}
pub use Rattle.std.specs.List.{AllByRecursion, cons_option, filter, filter_map, find, flat_map, fold, list_all, list_any, zip}
pub use Rattle.std.specs.Option.{option_map, option_map_or, option_or}
pub use Rattle.std.specs.Ordering.{is_eq, match_ordering, nat_cmp, ordering_reverse}
pub use Rattle.std.specs.Str.{bytes_eq, is_utf8}
pub use Rattle.std.specs.declared.cmp.Ordering.{Ordering}
pub use Rattle.std.specs.declared.cmp.Ordering.TheVariants.{Equal, Greater, Less}
pub use mathlib.Core.Bool.{false≢true, true≢false}
