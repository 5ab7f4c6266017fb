use Rattle.std.proofs.Common.{rules}
use Rattle.farm_types.specs.Names.{shown_cmp}
use Rattle.farm_pick.proofs.Ordered.{sorted_from_sort_by}
use Rattle.farm_pick.proofs.Queued.{shown_total}
use Rattle.farm_pick.proofs.index.in_order.Goals as goal

pub returns-clause-order : goal.returns-clause-order
returns-clause-order c = sorted_from_sort_by shown_cmp shown_total _ c.in_ok-sort_by.ensures.sorted (λ a r f called. search rules)
