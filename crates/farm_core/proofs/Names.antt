-- The names that the proofs share.
pub use Rattle.farm_pick.proofs.Filling.{queued_filter}
pub use Rattle.farm_pick.specs.Queued.{idle_boards, IdleBoard, queue_lists, Queued, queued_of, QueueLists}
pub use Rattle.farm_sound.proofs.Claims.{IsClaim, queue_claims}
pub use Rattle.farm_sound.proofs.Lists.{among_has, filter_all}
pub use Rattle.farm_sound.proofs.Numbers.{kept_total}
pub use Rattle.farm_sound.proofs.Own.{itself}
pub use Rattle.farm_sound.proofs.Tests.{both, same_number}
pub use Rattle.farm_table.specs.Near.{IsFitJob}
pub use Rattle.farm_table.specs.Tabled.{Leads, Tabled}
pub use Rattle.farm_types.proofs.Put.{AllByRecursion-weaker, found_passes, put_sorted}
pub use Rattle.farm_types.proofs.Searched.{same_names}
pub use Rattle.farm_types.specs.declared.calls.Call.{Call}
pub use Rattle.farm_types.specs.declared.calls.Cmd.{Cmd}
pub use Rattle.farm_types.specs.declared.claims.Claim.{Claim}
pub use Rattle.farm_types.specs.declared.claims.ClaimKind.{ClaimKind}
pub use Rattle.farm_types.specs.declared.rows.BoardRow.{BoardRow}
pub use Rattle.farm_types.specs.declared.rows.Check.{Check}
pub use Rattle.farm_types.specs.declared.rows.Holder.{Holder}
pub use Rattle.farm_types.specs.declared.rows.JobRow.{JobRow}
pub use Rattle.farm_types.specs.declared.rows.JobState.{JobState}
pub use Rattle.farm_types.specs.declared.rows.KeptRow.{KeptRow}
pub use Rattle.farm_types.specs.declared.rows.ResRow.{ResRow}
pub use Rattle.farm_types.specs.declared.rows.State.{State}
pub use Rattle.farm_types.specs.declared.rows.TypeRow.{TypeRow}
pub use Rattle.farm_types.specs.declared.rows.Want.{Want}
pub use Rattle.std.proofs.lemmas.Bool.Decides.{nat_tests}
pub use Rattle.std.proofs.lemmas.List.{length-map}
pub use Rattle.std.proofs.lemmas.List.Elements.{recursion_from_All}
pub use Rattle.std.specs.List.{AllByRecursion, find, fold, list_all, list_any, zip}
unfoldable pub use Rattle.std.specs.List.Sorted.{IsStrictlySortedBy}
pub use Rattle.std.specs.Option.{option_map_or}
pub use Rattle.std.specs.Ordering.{is_eq, is_lt, match_ordering, nat_cmp, ordering_reverse, ordering_then}
pub use Rattle.std.specs.Str.{bytes_eq}
pub use Rattle.std.specs.String.{string_bytes}
pub use Rattle.std.specs.declared.alloc.Global.{Global}
pub use Rattle.std.specs.declared.cmp.Ordering.{Ordering}
pub use Rattle.std.specs.declared.cmp.Ordering.TheVariants.{Equal, Greater, Less}
pub use mathlib.Core.Bool.{true≢false}
