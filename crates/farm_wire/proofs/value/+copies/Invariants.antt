-- A tree has more tokens than each part of it, and what is copied comes before what is left.
use Rattle.std.proofs.Common.{◌≡◌, length, drop, option_map}
use Rattle.json.specs.Tree.{json_tokens, items_tokens, members_tokens}
use Rattle.json.specs.Value.{value_view, items_view, members_view}
use Rattle.serde_json.specs.Data.{no_members}
use Rattle.serde_json.specs.Read.{of_items, of_members}
use Rattle.serde_json.specs.View.{members_view as map_view}
use Rattle.farm_wire.proofs.ValueLemmas.{items_before}
use Rattle.farm_wire.proofs.value.+copies.Given as goal

abbrev pub decreases-copy_of : goal.decreases-copy_of
decreases-copy_of l = length (json_tokens (value_view l.tree.now))

abbrev pub decreases-copies_of : goal.decreases-copies_of
decreases-copies_of l = length (items_tokens (items_view l.items.now))

abbrev pub decreases-map_of : goal.decreases-map_of
decreases-map_of l = length (members_tokens (members_view l.members.now))

abbrev pub invariant-copies_of-loop-item : goal.invariant-copies_of-loop-item
invariant-copies_of-loop-item l = of_items (items_view l.items) ≡ option_map (items_before l.values.items) (of_items (items_view (drop l.item-index l.items)))

abbrev pub invariant-map_of-loop-member : goal.invariant-map_of-loop-member
invariant-map_of-loop-member l = of_members (members_view l.members) no_members ≡ of_members (members_view (drop l.member-index l.members)) (map_view l.map.entries)
