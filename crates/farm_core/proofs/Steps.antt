-- Steps on the tables, one after another.
use Rattle.std.proofs.Common.{◌≡◌, ℕ, ap, sym, subst, ◌∙◌}
use Rattle.farm_core.proofs.Names.{BoardRow, JobRow, Leads, Ordering, ResRow, Tabled}
use Rattle.farm_types.specs.Names.{board_cmp, job_cmp, kept_cmp, put_all, put_rows, res_cmp, type_cmp}
use Rattle.farm_types.specs.declared.calls.Rows.{Rows}
use Rattle.farm_table.proofs.Steps.{leads_none, leads_join}
use Rattle.farm_core.specs.Came.{AreLogged, CameTo, IsAtRest, LeadOn, seen}
use Rattle.farm_core.specs.Plain.{plain_farm}
use Rattle.farm_core.specs.declared.tables.Tables.{Tables}

pub lead_on_none : (a : Tables) → LeadOn a a
lead_on_none a = record {
  types = leads_none type_cmp a.types;
  boards = leads_none board_cmp a.boards;
  jobs = leads_none job_cmp a.jobs;
  reservations = leads_none res_cmp a.reservations;
  kept = leads_none kept_cmp a.kept;
}

pub lead_on_join : (a b c : Tables) → LeadOn a b → LeadOn b c → LeadOn a c
lead_on_join a b c first second = record {
  types = leads_join type_cmp a.types b.types c.types first.types second.types;
  boards = leads_join board_cmp a.boards b.boards c.boards first.boards second.boards;
  jobs = leads_join job_cmp a.jobs b.jobs c.jobs first.jobs second.jobs;
  reservations = leads_join res_cmp a.reservations b.reservations c.reservations first.reservations second.reservations;
  kept = leads_join kept_cmp a.kept b.kept c.kept first.kept second.kept;
}

-- then a step on one table
pub boards_lead : (a b : Tables) (boards : Tabled BoardRow) → LeadOn a b → Leads board_cmp b.boards boards → LeadOn a (record b { boards = boards })
boards_lead a b boards first second = record {
  types = first.types;
  boards = leads_join board_cmp a.boards b.boards boards first.boards second;
  jobs = first.jobs;
  reservations = first.reservations;
  kept = first.kept;
}

pub jobs_lead : (a b : Tables) (jobs : Tabled JobRow) → LeadOn a b → Leads job_cmp b.jobs jobs → LeadOn a (record b { jobs = jobs })
jobs_lead a b jobs first second = record {
  types = first.types;
  boards = first.boards;
  jobs = leads_join job_cmp a.jobs b.jobs jobs first.jobs second;
  reservations = first.reservations;
  kept = first.kept;
}

pub reservations_lead : (a b : Tables) (reservations : Tabled ResRow) → LeadOn a b → Leads res_cmp b.reservations reservations → LeadOn a (record b { reservations = reservations })
reservations_lead a b reservations first second = record {
  types = first.types;
  boards = first.boards;
  jobs = first.jobs;
  reservations = leads_join res_cmp a.reservations b.reservations reservations first.reservations second;
  kept = first.kept;
}

-- and where nothing changed
pub leads_same : {R : Type 0} (cmp : R → R → Ordering) (a b : Tabled R) → b ≡ a → Leads cmp a b
leads_same cmp a b same = subst (Leads cmp a) (sym same) (leads_none cmp a)

pub stay_so : (T : Tables) (r : Tabled ResRow) → r ≡ T.reservations → CameTo T (seen T) (record T { reservations = r })
stay_so T r same =
    let logs = lead_on_none T in
    record {
      now = λ i. seen (record T { reservations = same i });
      logs = record { types = logs.types; boards = logs.boards; jobs = logs.jobs; reservations = leads_same res_cmp _ _ same; kept = logs.kept };
    }

-- what is logged from rest on leads from there
pub rows_led : (a b : Tables) (count : ℕ) (c : Rows) → IsAtRest a → LeadOn a b → AreLogged (record b { count = count }) c → put_rows (plain_farm a) c ≡ plain_farm (record b { count = count })
rows_led a b count c rest logs logged =
    let types = ap (put_all type_cmp a.types.rows) logged.types ∙ logs.types.on a.types.rows (ap (put_all type_cmp a.types.rows) rest.types) in
    let boards = ap (put_all board_cmp a.boards.rows) logged.boards ∙ logs.boards.on a.boards.rows (ap (put_all board_cmp a.boards.rows) rest.boards) in
    let jobs = ap (put_all job_cmp a.jobs.rows) logged.jobs ∙ logs.jobs.on a.jobs.rows (ap (put_all job_cmp a.jobs.rows) rest.jobs) in
    let reservations = ap (put_all res_cmp a.reservations.rows) logged.reservations ∙ logs.reservations.on a.reservations.rows (ap (put_all res_cmp a.reservations.rows) rest.reservations) in
    let kept = ap (put_all kept_cmp a.kept.rows) logged.kept ∙ logs.kept.on a.kept.rows (ap (put_all kept_cmp a.kept.rows) rest.kept) in
    λ i. record {
      types = types i;
      boards = boards i;
      jobs = jobs i;
      reservations = reservations i;
      kept = kept i;
      clock = (logged.meta i).clock;
      collector = (logged.meta i).collector;
      count = (logged.meta i).count;
      next = (logged.meta i).next;
    }
