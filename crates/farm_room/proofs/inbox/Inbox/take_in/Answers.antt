-- What the read gave is put behind what came before.
use Rattle.farm_room.proofs.InboxLemmas.{taken_in}
use Rattle.farm_room.proofs.inbox.Inbox.take_in.Goals as goal

pub returns-clause-came : goal.returns-clause-came
returns-clause-came g c =
    taken_in c.read-read.result _ _ c.read-read.new.buf _ _ _ c.read-read.ensures.bound c.read-read.ensures.bytes c.take_after.ensures.unread c.take_after.ensures.put
