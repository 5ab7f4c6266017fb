use Rattle.std.proofs.Common.{◌≡◌, drop}
use Rattle.farm_core.proofs.Names.{fold, JobState, zip}
use Rattle.farm_core.specs.Came.{LeadOn, seen, seen_at}
use Rattle.farm_core.specs.Plain.{plain_farm}
use Rattle.farm_core.specs.Serving.{assign_named, names_at}
use Rattle.farm_core.proofs.Serving.{names_of}
use Rattle.farm_core.proofs.tables.Tables.assign_jobs.Given as goal

abbrev pub invariant-loop-at : goal.invariant-loop-at
invariant-loop-at l = record {
  now : seen_at (fold (assign_named JobState.Scheduled) (plain_farm l.self) (drop l.at (zip l.numbers (names_at l.fn.self.boards.rows l.places)))) (seen l.self)
      ≡ seen_at (fold (assign_named JobState.Scheduled) (plain_farm l.fn.self) (zip l.numbers (names_at l.fn.self.boards.rows l.places))) (seen l.fn.self);
  names : names_of l.self.boards.rows ≡ names_of l.fn.self.boards.rows;
  logs : LeadOn l.fn.self l.self;
}
