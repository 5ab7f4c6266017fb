-- What was known stays known of more.
use Rattle.std.proofs.Math.Logic.{∥∥₁_elim}
use Rattle.std.proofs.Props.{props}
use Rattle.std.proofs.lemmas.Grind.{merely}
use Rattle.farm_room.proofs.InboxLemmas.{grown}
use Rattle.farm_room.proofs.inbox.Inbox.put.Goals as goal

pub invariant_of-self-clause-known : goal.invariant_of-self-clause-known
invariant_of-self-clause-known c = ∥∥₁_elim c.args.self.now.known (hlevel props) (λ it. merely (grown _ _ _ _ _ _ c.extend_from_slice.ensures.items it))
