-- Each part of a tree is copied, and the copies are what the tree stands for.
use Rattle.std.proofs.Common.{◌≡◌, ◌+◌, ◌<◌, ◌∷◌, length, drop, Some, Ok, Err, option_map, string_bytes, sym, ap, ◌∙◌, subst, arith, rules}
use Rattle.std.proofs.lemmas.List.{drop_more, drop_all}
use Rattle.json.specs.Json.{object}
use Rattle.json.specs.Tree.{json_tokens, items_tokens, members_tokens}
use Rattle.json.specs.Value.{value_view, items_view, members_view}
use Rattle.json.proofs.Trees.{item_smaller, member_smaller, view-Object}
use Rattle.serde_json.specs.Data.{no_members, put, object as data_object}
use Rattle.serde_json.specs.Read.{of_json, of_items, of_members}
use Rattle.serde_json.specs.View.{view, members_view as map_view}
use Rattle.serde_json.proofs.Views.{members_view-insert_entry, view-Object as map-Object}
use Rattle.farm_types.specs.Names.{OrNoMemory, refused_code}
use Rattle.farm_wire.specs.Fields.{there_or}
use Rattle.farm_wire.proofs.ValueLemmas.{there_is, refused_within, items_before, items_before-no_items, item_copied, member_copied}
use Rattle.farm_wire.proofs.value.+copies.Goals as goal

pub copies_of-copy_of-requires : goal.copies_of-copy_of-requires
copies_of-copy_of-requires t c =
    let xs = c.args.items.now in
    let x = c.item-item.result in
    let smaller : length (json_tokens (value_view x)) < length (items_tokens (items_view xs)) =
    subst (λ y. length (json_tokens (value_view y)) < length (items_tokens (items_view xs))) (sym c.item-item.is) (item_smaller xs c.loop-item.item-index x (omega arith)) in
    search rules

pub copies_of-loop-item-preserved : goal.copies_of-loop-item-preserved
copies_of-loop-item-preserved t c =
    let l = c.loop-item in
    let xs = c.args.items.now in
    let x = c.item-item.result in
    let v = c.in_ok-copy_of.field-0 in
    let later = drop (l.item-index + 1) xs in
    let here : drop l.item-index xs ≡ x ∷ later = drop_more xs l.item-index x (omega arith) ∙ ap (λ y. y ∷ later) (sym c.item-item.is) in
    let copied : of_json (value_view x) ≡ Some (view v) = there_is _ _ c.in_ok-copy_of.ensures in
    l.invariant ∙ ap (λ ys. option_map (items_before l.values.items) (of_items (items_view ys))) here ∙ item_copied l.values.items v (value_view x) (items_view later) copied
    ∙ ap (λ vs. option_map (items_before vs) (of_items (items_view later))) (sym c.in_ok-push.ensures.items)

pub copies_of-returns : goal.copies_of-returns
copies_of-returns t c =
    let l = c.loop-item in
    let over = drop_all l.item-index c.args.items.now (grind arith) in
    ap there_or (l.invariant ∙ ap (λ ys. option_map (items_before l.values.items) (of_items (items_view ys))) over) ∙ ap (λ ds. Ok ds) (items_before-no_items l.values.items)

pub copy_of-returns-in_err-map_of-in-Object : goal.copy_of-returns-in_err-map_of-in-Object
copy_of-returns-in_err-map_of-in-Object t c =
    let ms = members_view c.as_slice-in-Object.result.now in
    let fault = c.in_err-map_of-in-Object.field-0.0 in
    let seen : value_view c.args.tree.now ≡ object ms = ap value_view c.in-Object.is ∙ view-Object c.in-Object.members ∙ ap (λ xs. object (members_view xs)) (sym c.as_slice-in-Object.ensures.value) in
    let whole = refused_within fault (of_members ms no_members) (of_json (value_view c.args.tree.now)) (λ none. ap of_json seen ∙ ap (option_map data_object) none) c.in_err-map_of-in-Object.ensures in
    let is : c.from_residual-in_err-map_of-in-Object.result ≡ Err fault = search rules in
    subst (λ r. OrNoMemory refused_code (λ v. view v) r (there_or (of_json (value_view c.args.tree.now)))) (sym is) whole

pub copy_of-returns-in_ok-map_of-in-Object : goal.copy_of-returns-in_ok-map_of-in-Object
copy_of-returns-in_ok-map_of-in-Object t c =
    let ms = members_view c.as_slice-in-Object.result.now in
    let seen : value_view c.args.tree.now ≡ object ms = ap value_view c.in-Object.is ∙ view-Object c.in-Object.members ∙ ap (λ xs. object (members_view xs)) (sym c.as_slice-in-Object.ensures.value) in
    let map = c.in_ok-map_of-in-Object.field-0 in
    let copied : of_members ms no_members ≡ Some (map_view map.entries) = there_is _ _ c.in_ok-map_of-in-Object.ensures in
    ap (λ j. there_or (of_json j)) seen ∙ ap (λ o. there_or (option_map data_object o)) copied ∙ ap (λ d. Ok d) (sym (map-Object map))

pub map_of-copy_of-requires : goal.map_of-copy_of-requires
map_of-copy_of-requires t c =
    let xs = c.args.members.now in
    let x = c.member-item.result in
    let smaller : length (json_tokens (value_view x.1)) < length (members_tokens (members_view xs)) =
    subst (λ y. length (json_tokens (value_view y.1)) < length (members_tokens (members_view xs))) (sym c.member-item.is) (member_smaller xs c.loop-member.member-index x (omega arith)) in
    search rules

pub map_of-loop-member-preserved : goal.map_of-loop-member-preserved
map_of-loop-member-preserved t c =
    let l = c.loop-member in
    let xs = c.args.members.now in
    let x = c.member-item.result in
    let v = c.in_ok-value.value in
    let old = map_view l.map.entries in
    let later = drop (l.member-index + 1) xs in
    let here : drop l.member-index xs ≡ x ∷ later = drop_more xs l.member-index x (omega arith) ∙ ap (λ y. y ∷ later) (sym c.member-item.is) in
    let copied : of_json (value_view x.1) ≡ Some (view v) = there_is _ _ c.in_ok-value.ensures in
    let named : string_bytes c.in_ok-key.key ≡ x.0.now = search rules in
    let inserted : map_view c.insert.new.self.entries ≡ put x.0.now (view v) old =
    ap map_view c.in_ok-insert.ensures.entries ∙ members_view-insert_entry l.map.entries c.in_ok-key.key v ∙ ap (λ name. put name (view v) old) named in
    l.invariant ∙ ap (λ ys. of_members (members_view ys) old) here ∙ member_copied old x.0.now (value_view x.1) (view v) (members_view later) copied
    ∙ ap (of_members (members_view later)) (sym inserted)
