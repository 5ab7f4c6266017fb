-- The names that the proofs share.
pub use Rattle.farm_sound.proofs.Claims.{claim_total, IsClaim, IsGroupClaim, queue_claims, queue_sorted}
pub use Rattle.farm_sound.proofs.Group.{given}
pub use Rattle.farm_sound.proofs.Lists.{all_join, among_has, filter_all, none_pass}
pub use Rattle.farm_sound.proofs.Own.{differs, differs_more, itself, only_job, own_job, text_itself}
pub use Rattle.farm_sound.proofs.Tests.{both, same_number}
pub use Rattle.farm_sound.proofs.Where.{all_true, AllByRecursion-both, AllByRecursion-map, by_cases, map_id}
pub use Rattle.farm_types.proofs.Put.{AllByRecursion-weaker, found_has, found_passes}
pub use Rattle.farm_types.proofs.Searched.{is_lt-Less, same_names}
pub use Rattle.farm_types.specs.declared.claims.Claim.{Claim}
pub use Rattle.farm_types.specs.declared.rows.BoardRow.{BoardRow}
pub use Rattle.farm_types.specs.declared.rows.Holder.{Holder}
pub use Rattle.farm_types.specs.declared.rows.JobRow.{JobRow}
pub use Rattle.farm_types.specs.declared.rows.JobState.{JobState}
pub use Rattle.farm_types.specs.declared.rows.ResRow.{ResRow}
pub use Rattle.farm_types.specs.declared.rows.State.{State}
pub use Rattle.farm_types.specs.declared.rows.Want.{Want}
pub use Rattle.std.proofs.Math.Bool.{and-false, and-true}
pub use Rattle.std.proofs.lemmas.Bool.{cases_Bool, cases_eq, eqb-false, false_from_ne_true, ne_eqb, or_from, or_parts}
pub use Rattle.std.proofs.lemmas.Bool.Decides.{nat_tests}
pub use Rattle.std.proofs.lemmas.Cmp.{ranked}
pub use Rattle.std.proofs.lemmas.Fn.{always_returns_same}
pub use Rattle.std.proofs.lemmas.List.{append-nil, append_assoc, get_or_default, length-map, length-set}
pub use Rattle.std.proofs.lemmas.List.Sorted.{IsPermutation-sym}
pub use Rattle.std.proofs.lemmas.Option.{same_Some}
pub use Rattle.std.proofs.lemmas.Simd.{map-map}
pub use Rattle.std.proofs.lemmas.Slice.Eq.{bytes_eq-Decides}
pub use Rattle.std.specs.BTreeMap.{insert_entry}
pub use Rattle.std.specs.Cmp.{IsTotalOrder, nat_cmp_is, nat_cmp_total, on_total, then_total}
pub use Rattle.std.specs.Cmp.Lexicographic.{nat_list_cmp_total, nat_list_eq_equiv}
pub use Rattle.std.specs.List.{AllByRecursion, AllZip, find, fold, list_all, list_any}
pub use Rattle.std.specs.List.Sorted.{IsPermutation, IsSortedBy}
pub use Rattle.std.specs.Map.{remove_entry}
pub use Rattle.std.specs.Option.{option_map_or}
pub use Rattle.std.specs.Ordering.{is_eq, is_gt, is_lt, nat_cmp, ordering_reverse, ordering_then}
pub use Rattle.std.specs.Str.{bytes_eq}
pub use Rattle.std.specs.declared.cmp.Ordering.{Ordering}
