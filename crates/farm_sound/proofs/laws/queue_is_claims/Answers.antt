use Rattle.std.proofs.Common.{subst}
use Rattle.std.specs.List.Sorted.{IsPermutation}
use Rattle.std.proofs.lemmas.List.{append-nil}
use Rattle.farm_types.specs.Names.{claims, queue}
use Rattle.farm_sound.proofs.Claims.{queue_sorted}
use Rattle.farm_sound.proofs.Queue.{queue_permutes}
use Rattle.farm_sound.proofs.laws.queue_is_claims.Goals as goal

pub returns-clause-order : goal.returns-clause-order
returns-clause-order c = queue_sorted

pub returns-clause-each : goal.returns-clause-each
returns-clause-each c = λ F sound. subst (λ cs. IsPermutation cs (queue F)) (append-nil (claims F)) (queue_permutes F sound.steady)
