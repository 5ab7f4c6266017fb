use Rattle.std.proofs.Common.{◌≡◌, drop, map, ◌++◌, Ok}
use Rattle.toml.specs.View.{items_view}
use Rattle.farm_types.specs.Names.{◌>>=◌}
use Rattle.farm_jobfile.specs.Fields.{texts_in}
use Rattle.farm_jobfile.proofs.fields.texts_of.Given as goal

-- the texts that are taken and those of the items that are left are all the texts
abbrev pub invariant-loop-item : goal.invariant-loop-item
invariant-loop-item l = texts_in l.file (items_view l.items) ≡ (texts_in l.file (items_view (drop l.item-index l.items)) >>= λ rest. Ok (map (λ text. text.now) l.texts.items ++ rest))
