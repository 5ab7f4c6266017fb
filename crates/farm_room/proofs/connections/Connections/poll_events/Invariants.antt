use Rattle.std.proofs.Common.{◌≡◌, ◌+◌, ◌<◌}
use Rattle.std.specs.Prelude.{◌^◌}
use Rattle.std.specs.VecDeque.{deque_items, deque_len}
use Rattle.farm_room.specs.Waiting.{AllStay, outstanding}
use Rattle.farm_room.proofs.connections.Connections.poll_events.Given as goal

-- the fields stand one by one while the events are lent: both rows, and those that were refused
abbrev pub invariant-loop-event : goal.invariant-loop-event
invariant-loop-event l =
    let rows = l.self.1.1.1.1 in
    let refused = rows.1.1.1.1.1.1.0 in
    (outstanding l.fn.self < 2 ^ 64 → l.fn.self.to_accept + refused + deque_len rows.0 + deque_len rows.1.0 ≡ outstanding l.fn.self)
    × AllStay (deque_items l.fn.self.ready) (deque_items rows.1.0)
