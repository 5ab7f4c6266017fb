use Rattle.std.proofs.Common.{ap, sym, subst, ◌∙◌}
use Rattle.farm_types.specs.Names.{IsSound}
use Rattle.farm_pick.specs.Queued.{queue_lists}
use Rattle.farm_sound.proofs.Numbers.{IsSound-empty}
use Rattle.farm_core.proofs.farm.Farm.empty.Goals as goal

pub invariant_of-result : goal.invariant_of-result
invariant_of-result c = λ _. record { sound = subst IsSound (sym c.new.ensures.farm) IsSound-empty; fits = c.new.ensures.queues ∙ ap queue_lists (sym c.new.ensures.farm) }
