use Rattle.farm_types.specs.Names.{is_free}
use Rattle.farm_pick.proofs.Listed.{IsListed}
use Rattle.farm_pick.proofs.idle.shortlist.Given as goal

-- the free boards that were looked at have their short list
abbrev pub invariant-loop-at : goal.invariant-loop-at
invariant-loop-at l = IsListed l.kinds l.rows.items l.boards (is_free l.types) l.want l.limit l.at l.found
