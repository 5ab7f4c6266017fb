use Rattle.std.proofs.Common.{subst}
use Rattle.farm_core.specs.Plain.{plain_farm}
use Rattle.farm_core.specs.Serving.{IsMissed}
use Rattle.farm_core.proofs.tables.Tables.is_known_miss.Goals as goal

pub returns-in-Some : goal.returns-in-Some
returns-in-Some c so =
    let F = plain_farm c.args.self.now in
    subst (IsMissed F) c.in-Some.ensures.wants (c.is_known.ensures so F c.requires)
