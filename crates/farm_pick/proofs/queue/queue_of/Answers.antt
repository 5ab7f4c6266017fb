use Rattle.std.proofs.Common.{rules}
use Rattle.farm_pick.proofs.Names.{is_lt, IsSortedBy}
use Rattle.farm_types.specs.Names.{shown_cmp}
use Rattle.farm_pick.proofs.Ordered.{sorted_from_sort_by}
use Rattle.farm_pick.proofs.Queued.{queue_found, shown_total}
use Rattle.farm_pick.proofs.queue.queue_of.Goals as goal

pub returns : goal.returns
returns c = λ F steady jobs reservations.
    let in_order : IsSortedBy (λ a b. is_lt (shown_cmp a b)) c.sort_unstable_by.new.self.items =
    sorted_from_sort_by shown_cmp shown_total _ c.sort_unstable_by.ensures.sorted (λ a r f called. search rules) in
    queue_found F steady _ _ _ _ _ _ jobs reservations c.new-claims.ensures.items c.in_ok-add_reservations.ensures c.in_ok-add_groups.ensures
    c.sort_unstable_by.ensures.permutation in_order
