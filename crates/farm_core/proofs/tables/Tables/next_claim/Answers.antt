use Rattle.std.proofs.Common.{option_copied, subst, sym}
use Rattle.farm_core.specs.Plain.{plain_farm}
use Rattle.farm_core.specs.Serving.{IsNext, IsNextCandidate}
use Rattle.farm_core.proofs.Next.{next_both}
use Rattle.farm_core.proofs.tables.Tables.next_claim.Goals as goal

pub returns : goal.returns
returns c =
    let F = plain_farm c.args.self.now in
    let open_is = c.in_ok-open.ensures in
    subst (IsNext F c.args.last) (sym c.earlier.ensures)
    (next_both F c.args.last c.args.self.now.queues c.requires.fits (option_copied c.in_ok-open.open) (option_copied c.next_several.result)
    (subst (λ l. IsNextCandidate F l (option_copied c.in_ok-open.open)) c.copied.ensures open_is) c.next_several.ensures)
