use Rattle.std.proofs.Common.{◌≡◌, ◌≤◌, take, length, []}
use Rattle.std.specs.List.{AllByRecursion}
use Rattle.std.specs.List.Sorted.{IsStrictlySortedBy}
use Rattle.farm_types.specs.Words.{IsTag, text_cmp}
use Rattle.farm_types.specs.Table.{put_all}
use Rattle.farm_types.proofs.tags.Tags.of.Given as goal

-- the first tags are put in order
abbrev pub invariant-loop-tag : goal.invariant-loop-tag
invariant-loop-tag l = record {
  put : l.items.items ≡ put_all text_cmp [] (take l.tag-index l.tags);
  sorted : IsStrictlySortedBy text_cmp l.items.items;
  each : AllByRecursion IsTag l.items.items;
  few : length l.items.items ≤ l.tag-index;
}
