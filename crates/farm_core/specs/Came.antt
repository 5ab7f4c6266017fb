-- How a command leads from tables to tables in place.
use Rattle.std.specs.Prelude.{◌≡◌, ℕ, List, []}
use Rattle.std.specs.List.{AllByRecursion}
use Rattle.farm_types.specs.Names.{act, board_cmp, done_with, Farm, IsSmall, IsSmallBoard, IsSmallJob, IsSmallKept, IsSmallRes, IsSmallType}
use Rattle.farm_types.specs.Names.{job_cmp, kept_cmp, res_cmp, type_cmp}
use Rattle.farm_types.specs.declared.calls.Cmd.{Cmd}
use Rattle.farm_types.specs.declared.calls.Rows.{Rows}
use Rattle.farm_types.specs.declared.rows.Reply.{Reply}
use Rattle.farm_pick.specs.Queued.{QueueLists}
use Rattle.farm_table.specs.Tabled.{Leads}
use Rattle.farm_core.specs.Following.{queues_after}
use Rattle.farm_core.specs.Plain.{plain_farm}
use Rattle.farm_core.specs.declared.tables.Tables.{Tables}

-- what commands are said of: the farm and its queues
pub record Seen : Type 0 where
  pub farm : Farm
  pub queues : QueueLists

abbrev pub seen : Tables → Seen
seen t = record { farm = plain_farm t; queues = t.queues }

-- the same, at another farm
abbrev pub seen_at : Farm → Seen → Seen
seen_at F s = record s { farm = F }

-- the log of each table leads on
pub record LeadOn (a b : Tables) : Type 0 where
  pub types : Leads type_cmp a.types b.types
  pub boards : Leads board_cmp a.boards b.boards
  pub jobs : Leads job_cmp a.jobs b.jobs
  pub reservations : Leads res_cmp a.reservations b.reservations
  pub kept : Leads kept_cmp a.kept b.kept

-- the tables have come to be seen so, and the logs lead on
pub record CameTo (a : Tables) (s : Seen) (b : Tables) : Type 0 where
  pub now : seen b ≡ s
  pub logs : LeadOn a b

-- a command acts: the machine's act gives the number and the farm that the tables come to, the queues
-- follow, and the logs lead on
pub record Acts (a : Tables) (caller : List ℕ) (cmd : Cmd) (number : ℕ) (b : Tables) : Type 0 where
  pub done : act (plain_farm a) caller cmd ≡ done_with number (plain_farm b)
  pub queues : b.queues ≡ queues_after (plain_farm a) caller cmd a.queues
  pub logs : LeadOn a b

-- nothing is logged
pub record IsAtRest (t : Tables) : Type 0 where
  pub types : t.types.log ≡ []
  pub boards : t.boards.log ≡ []
  pub jobs : t.jobs.log ≡ []
  pub reservations : t.reservations.log ≡ []
  pub kept : t.kept.log ≡ []

-- the changes are what is logged, and the four numbers
pub record AreLogged (t : Tables) (c : Rows) : Type 0 where
  pub types : c.types.items ≡ t.types.log
  pub boards : c.boards.items ≡ t.boards.log
  pub jobs : c.jobs.items ≡ t.jobs.log
  pub reservations : c.reservations.items ≡ t.reservations.log
  pub kept : c.kept.items ≡ t.kept.log
  pub meta : c.meta ≡ record {
    clock = t.clock;
    collector = t.collector;
    count = t.count;
    next = t.next;
  }

-- each number of the changed rows is small, the farm's own four aside
pub record AreSmallRows (c : Rows) : Type 0 where
  pub types : AllByRecursion IsSmallType c.types.items
  pub boards : AllByRecursion IsSmallBoard c.boards.items
  pub jobs : AllByRecursion IsSmallJob c.jobs.items
  pub reservations : AllByRecursion IsSmallRes c.reservations.items
  pub kept : AllByRecursion IsSmallKept c.kept.items

abbrev pub IsSmallReply : Reply → Type 0
IsSmallReply r = IsSmall r.0 × IsSmall r.1 × IsSmall r.2
