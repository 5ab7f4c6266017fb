use Rattle.std.proofs.Common.{◌≡◌, map, take}
use Rattle.std.specs.List.{AllByRecursion, filter}
use Rattle.farm_core.specs.Replies.{LiesIn, entry_row, is_packable}
use Rattle.farm_core.proofs.kept.packed.Packed.of.Given as goal

abbrev pub invariant-loop-row : goal.invariant-loop-row
invariant-loop-row l = record {
  rows : map (entry_row l.texts.items) l.entries.items ≡ filter is_packable (take l.row-index l.rows);
  lie : AllByRecursion (LiesIn l.texts.items) l.entries.items;
}
