-- The farm that the program's tables are.
use Rattle.farm_types.specs.Names.{Farm}
use Rattle.farm_core.specs.declared.tables.Tables.{Tables}

abbrev pub plain_farm : Tables → Farm
plain_farm t = record {
  types = t.types.rows;
  boards = t.boards.rows;
  jobs = t.jobs.rows;
  reservations = t.reservations.rows;
  kept = t.kept.rows;
  clock = t.clock;
  collector = t.collector;
  count = t.count;
  next = t.next;
}
