-- Rows beside the texts of their tags.
use Rattle.std.specs.Prelude.{List, map}
use Rattle.farm_store.specs.declared.stored.Stored.{Ghosts}
use Rattle.farm_store.specs.declared.stored.Tagged.{Tagged}

-- the rows alone
abbrev pub untagged : {R : Type 0} {g : Ghosts R} → List (Tagged R g) → List R
untagged tagged = map (λ t. t.row.now) tagged
