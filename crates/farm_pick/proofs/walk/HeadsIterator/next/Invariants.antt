use Rattle.std.proofs.Common.{length, ◌+◌, ◌-◌, ◌≡◌}
use Rattle.farm_pick.specs.Heads.{AreHeads, heads_from}
use Rattle.farm_pick.proofs.walk.HeadsIterator.next.Given as goal

-- what is left to lend is what was left at first
abbrev pub invariant-loop-self : goal.invariant-loop-self
invariant-loop-self l = record {
  index : AreHeads l.self-inside.index.now.kinds.items l.self-inside.index.now.claims.entries l.self-inside.index.now.idle.items;
  shows : heads_from l.self-inside.index.now.kinds.items l.self-inside.index.now.claims.entries l.self-inside.index.now.idle.items l.self-inside.all l.self-inside.last l.self-inside.queue
      ≡ heads_from l.initial.self-inside.index.now.kinds.items l.initial.self-inside.index.now.claims.entries l.initial.self-inside.index.now.idle.items l.initial.self-inside.all l.initial.self-inside.last l.initial.self-inside.queue;
}

abbrev pub decreases-loop-self : goal.decreases-loop-self
decreases-loop-self l = length l.self-inside.index.now.kinds.items + 1 - l.self-inside.queue
