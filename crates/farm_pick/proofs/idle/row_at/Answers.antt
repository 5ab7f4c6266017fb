use Rattle.std.proofs.Common.{◌≡◌, ◌∙◌, ◌<◌, List, Ok, ap, get_or, length, subst, sym, rules, true, ℕ}
use Rattle.farm_pick.proofs.Names.{always_returns_same, bytes_eq, bytes_eq-Decides, get_or_default, nat_list_cmp_total, same_names}
use Rattle.std.specs.List.Sorted.{IsSearchInRange}
use Rattle.std.specs.VecDeque.{deque_len}
use Rattle.std.specs.declared.cmp.Ordering.TheVariants.{Equal}
use Rattle.std.proofs.lemmas.Cmp.{tied_itself}
use Rattle.farm_types.specs.Names.{text_cmp}
use Rattle.farm_pick.proofs.Placed.{placed}
use Rattle.farm_pick.specs.declared.idle.IdleRow.{IdleRow}
use Rattle.farm_pick.proofs.idle.row_at.Goals as goal

same_text : (a b : List ℕ) → bytes_eq a b ≡ true → text_cmp a b ≡ Equal
same_text a b is = subst (λ x. text_cmp a x ≡ Equal) ((bytes_eq-Decides a b).0 is) (tied_itself nat_list_cmp_total a)

pub returns-then-is : goal.returns-then-is
returns-then-is c =
    placed (λ (r : IdleRow). r.name) text_cmp nat_list_cmp_total bytes_eq same_names c.args.name.now (λ r. r.name ≡ c.args.name.now) (λ r is. is)
    c.args.rows.now.items c.requires (Ok c.loop-at.at) some
    (λ d. subst (λ (r : IdleRow). text_cmp r.name c.args.name.now ≡ Equal) (get_or_default c.args.rows.now.items c.loop-at.at c.index.result.now d some)
    (same_text (get_or c.args.rows.now.items c.loop-at.at c.index.result.now).name c.args.name.now
    (ap (λ (r : IdleRow). bytes_eq r.name c.args.name.now) (sym c.index.ensures) ∙ sym c.is.ensures ∙ c.if-is.true)))
  where
    some : c.loop-at.at < length c.args.rows.now.items
    some = search rules

pub returns : goal.returns
returns c =
    placed (λ (r : IdleRow). r.name) text_cmp nat_list_cmp_total bytes_eq same_names c.args.name.now (λ r. r.name ≡ c.args.name.now) (λ r is. is)
    c.args.rows.now.items c.requires c.binary_search_by.result (subst (IsSearchInRange c.binary_search_by.result) len c.binary_search_by.ensures.bound)
    (c.binary_search_by.ensures.position (λ r. text_cmp r.name c.args.name.now) (always_returns_same _ _ _ (λ a r f' called. search rules)))
  where
    len : deque_len c.args.rows.now ≡ length c.args.rows.now.items
    len = search rules
