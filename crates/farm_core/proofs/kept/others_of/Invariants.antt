use Rattle.std.proofs.Common.{◌≡◌, [], map, take}
use Rattle.std.specs.Prelude.{not}
use Rattle.std.specs.List.{filter}
use Rattle.farm_types.specs.Names.{kept_cmp, put_all}
use Rattle.farm_core.specs.Replies.{AreJoined, is_packable, kept_row}
use Rattle.farm_core.proofs.kept.others_of.Given as goal

abbrev pub invariant-loop-row : goal.invariant-loop-row
invariant-loop-row l = record {
  rows : map kept_row l.others.entries ≡ put_all kept_cmp [] (filter (λ r. not (is_packable r)) (take l.row-index l.rows));
  joined : AreJoined l.others.entries;
}
