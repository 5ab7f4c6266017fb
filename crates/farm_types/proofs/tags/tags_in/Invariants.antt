use Rattle.std.proofs.Common.{◌≡◌, take, map, true}
use Rattle.std.specs.List.{list_all}
use Rattle.farm_types.specs.Words.{is_tag}
use Rattle.farm_types.proofs.tags.tags_in.Given as goal

-- the first parts are tags, and taken over
abbrev pub invariant-loop-part : goal.invariant-loop-part
invariant-loop-part l = record {
  taken : l.items.items ≡ map (λ part. part.now) (take l.part-index l.parts);
  each : list_all is_tag (map (λ part. part.now) (take l.part-index l.parts)) ≡ true;
}
