use Rattle.std.proofs.Common.{◌≡◌, ◌++◌, map, filter, take}
use Rattle.farm_types.specs.Names.{is_waiting}
use Rattle.farm_pick.specs.Queue.{shown_reservation}
use Rattle.farm_pick.proofs.queue.add_reservations.Given as goal

abbrev pub invariant-loop-reservation : goal.invariant-loop-reservation
invariant-loop-reservation l =
    l.claims.items ≡ l.fn.claims.items ++ map shown_reservation (filter is_waiting (take l.reservation-index l.reservations))
