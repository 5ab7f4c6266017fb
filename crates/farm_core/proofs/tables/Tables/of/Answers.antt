use Rattle.farm_types.specs.Names.{farm_of}
use Rattle.farm_core.proofs.Sound.{fit_jobs, small_boards, small_reservations, small_types}
use Rattle.farm_core.proofs.tables.Tables.of.Goals as goal

pub of-requires-4-clause-fit : goal.of-requires-4-clause-fit
of-requires-4-clause-fit c = small_reservations (farm_of c.args.rows) c.requires

pub of-requires-clause-fit : goal.of-requires-clause-fit
of-requires-clause-fit c = small_types (farm_of c.args.rows) c.requires

pub of-requires-2-clause-fit : goal.of-requires-2-clause-fit
of-requires-2-clause-fit c = small_boards (farm_of c.args.rows) c.requires

pub of-requires-3-clause-fit : goal.of-requires-3-clause-fit
of-requires-3-clause-fit c = fit_jobs (farm_of c.args.rows) c.requires
