-- A farm: nine plain things.
use Rattle.std.specs.Prelude.{ℕ, ◌==◌, ◌&&◌, List, [], length, Option}
use Rattle.std.specs.List.{find, filter}
use Rattle.std.specs.Str.{bytes_eq}
use Rattle.farm_types.specs.Table.{put, put_all, type_cmp, board_cmp, job_cmp, res_cmp, kept_cmp}
use Rattle.farm_types.specs.declared.rows.TypeRow.{TypeRow}
use Rattle.farm_types.specs.declared.rows.BoardRow.{BoardRow}
use Rattle.farm_types.specs.declared.rows.JobRow.{JobRow}
use Rattle.farm_types.specs.declared.rows.ResRow.{ResRow}
use Rattle.farm_types.specs.declared.rows.KeptRow.{KeptRow}
use Rattle.farm_types.specs.declared.calls.Rows.{Rows}
use Rattle.farm_types.specs.declared.claims.Status.{Status}

-- `collector` is the number of the group that collects boards, and 0 while none does
pub record Farm : Type 0 where
  pub types : List TypeRow
  pub boards : List BoardRow
  pub jobs : List JobRow
  pub reservations : List ResRow
  pub kept : List KeptRow
  pub clock : ℕ
  pub collector : ℕ
  pub count : ℕ
  pub next : ℕ

-- the farm that nothing was asked of
abbrev pub empty_farm : Farm
empty_farm = record { types = []; boards = []; jobs = []; reservations = []; kept = []; clock = 0; collector = 0; count = 0; next = 1 }

-- the row with a key
abbrev pub type_of : Farm → List ℕ → Option TypeRow
type_of F name = find (λ r. bytes_eq r.name name) F.types

abbrev pub board_of : Farm → List ℕ → Option BoardRow
board_of F name = find (λ r. bytes_eq r.name name) F.boards

abbrev pub job_of : Farm → ℕ → Option JobRow
job_of F number = find (λ r. r.number == number) F.jobs

abbrev pub res_of : Farm → ℕ → Option ResRow
res_of F number = find (λ r. r.number == number) F.reservations

abbrev pub kept_of : Farm → List ℕ → List ℕ → Option KeptRow
kept_of F caller key = find (λ r. bytes_eq r.caller caller && bytes_eq r.key key) F.kept

-- the members of a group, in order of number
abbrev pub members : Farm → ℕ → List JobRow
members F group = filter (λ r. r.group == group) F.jobs

-- the farm with a row put, or several
abbrev pub put_type : Farm → TypeRow → Farm
put_type F row = record F { types = put type_cmp F.types row }

abbrev pub put_board : Farm → BoardRow → Farm
put_board F row = record F { boards = put board_cmp F.boards row }

abbrev pub put_jobs : Farm → List JobRow → Farm
put_jobs F rows = record F { jobs = put_all job_cmp F.jobs rows }

abbrev pub put_res : Farm → ResRow → Farm
put_res F row = record F { reservations = put res_cmp F.reservations row }

abbrev pub put_kept : Farm → KeptRow → Farm
put_kept F row = record F { kept = put kept_cmp F.kept row }

-- the farm with each changed row put, and the four numbers
abbrev pub put_rows : Farm → Rows → Farm
put_rows F c = record {
  types = put_all type_cmp F.types c.types.items;
  boards = put_all board_cmp F.boards c.boards.items;
  jobs = put_all job_cmp F.jobs c.jobs.items;
  reservations = put_all res_cmp F.reservations c.reservations.items;
  kept = put_all kept_cmp F.kept c.kept.items;
  clock = c.meta.clock;
  collector = c.meta.collector;
  count = c.meta.count;
  next = c.meta.next;
}

-- the farm that the rows spell
abbrev pub farm_of : Rows → Farm
farm_of r = record {
  types = r.types.items;
  boards = r.boards.items;
  jobs = r.jobs.items;
  reservations = r.reservations.items;
  kept = r.kept.items;
  clock = r.meta.clock;
  collector = r.meta.collector;
  count = r.meta.count;
  next = r.meta.next;
}

-- how many rows it has, and its numbers
abbrev pub status_of : Farm → Status
status_of F = record {
  boards = length F.boards;
  clock = F.clock;
  collector = F.collector;
  count = F.count;
  jobs = length F.jobs;
  next = F.next;
  reservations = length F.reservations;
  types = length F.types;
}
