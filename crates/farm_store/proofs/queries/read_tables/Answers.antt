use Rattle.farm_types.specs.declared.calls.Rows.{Rows}
use Rattle.farm_store.proofs.EditionLemmas.{readable_jobs, spelled, words_in}
use Rattle.farm_store.proofs.ReadFarm.{reads, refuses_farm}
use Rattle.farm_store.proofs.LeftAlone.{early, only_then}
use Rattle.farm_store.proofs.queries.read_tables.Goals as goal

pub returns-in_err-read-clause-read : goal.returns-in_err-read-clause-read
returns-in_err-read-clause-read g c clean T at collector numbers =
    let refused = c.in_err-read.ensures.read clean T at in
    refuses_farm c.args.edition c.from_residual.result T c.in_err-read.field-0.0 c.from_residual.ensures.1 (λ bad F good is. refused.1 bad F.types (words_in c.args.edition F good).types (spelled c.args.edition F T is).types)

pub returns-in_err-read-2-clause-only : goal.returns-in_err-read-2-clause-only
returns-in_err-read-2-clause-only g c = only_then c.read.ensures.only c.read-2.ensures.only

pub returns-in_err-read-2-clause-read : goal.returns-in_err-read-2-clause-read
returns-in_err-read-2-clause-read g c clean T at collector numbers =
    let refused = c.in_err-read-2.ensures.read clean T ((c.read.ensures.only).stands (early c.read-2.ensures.only clean) _ T at) in
    refuses_farm c.args.edition c.from_residual-in_err-read-2.result T c.in_err-read-2.field-0.0 c.from_residual-in_err-read-2.ensures.1 (λ bad F good is. refused.1 bad F.boards (words_in c.args.edition F good).boards (spelled c.args.edition F T is).boards)

pub returns-in_err-read-3-clause-only : goal.returns-in_err-read-3-clause-only
returns-in_err-read-3-clause-only g c = only_then (only_then c.read.ensures.only c.read-2.ensures.only) c.read-3.ensures.only

pub returns-in_err-read-3-clause-read : goal.returns-in_err-read-3-clause-read
returns-in_err-read-3-clause-read g c clean T at collector numbers =
    let refused = c.in_err-read-3.ensures.read clean T ((only_then c.read.ensures.only c.read-2.ensures.only).stands (early c.read-3.ensures.only clean) _ T at) in
    refuses_farm c.args.edition c.from_residual-in_err-read-3.result T c.in_err-read-3.field-0.0 c.from_residual-in_err-read-3.ensures.1 (λ bad F good is. refused.1 bad F.jobs (readable_jobs c.args.edition F good) (spelled c.args.edition F T is).jobs)

pub returns-in_err-read-4-clause-only : goal.returns-in_err-read-4-clause-only
returns-in_err-read-4-clause-only g c = only_then (only_then (only_then c.read.ensures.only c.read-2.ensures.only) c.read-3.ensures.only) c.read-4.ensures.only

pub returns-in_err-read-4-clause-read : goal.returns-in_err-read-4-clause-read
returns-in_err-read-4-clause-read g c clean T at collector numbers =
    let refused = c.in_err-read-4.ensures.read clean T ((only_then (only_then c.read.ensures.only c.read-2.ensures.only) c.read-3.ensures.only).stands (early c.read-4.ensures.only clean) _ T at) in
    refuses_farm c.args.edition c.from_residual-in_err-read-4.result T c.in_err-read-4.field-0.0 c.from_residual-in_err-read-4.ensures.1 (λ bad F good is. refused.1 bad F.reservations (words_in c.args.edition F good).reservations (spelled c.args.edition F T is).reservations)

pub returns-in_err-read-5-clause-only : goal.returns-in_err-read-5-clause-only
returns-in_err-read-5-clause-only g c = only_then (only_then (only_then (only_then c.read.ensures.only c.read-2.ensures.only) c.read-3.ensures.only) c.read-4.ensures.only) c.read-5.ensures.only

pub returns-in_err-read-5-clause-read : goal.returns-in_err-read-5-clause-read
returns-in_err-read-5-clause-read g c clean T at collector numbers =
    let refused = c.in_err-read-5.ensures.read clean T ((only_then (only_then (only_then c.read.ensures.only c.read-2.ensures.only) c.read-3.ensures.only) c.read-4.ensures.only).stands (early c.read-5.ensures.only clean) _ T at) in
    refuses_farm c.args.edition c.from_residual-in_err-read-5.result T c.in_err-read-5.field-0.0 c.from_residual-in_err-read-5.ensures.1 (λ bad F good is. refused.1 bad F.kept (words_in c.args.edition F good).kept (spelled c.args.edition F T is).kept)

pub returns-clause-only : goal.returns-clause-only
returns-clause-only g c = only_then (only_then (only_then (only_then c.read.ensures.only c.read-2.ensures.only) c.read-3.ensures.only) c.read-4.ensures.only) c.read-5.ensures.only

pub returns-clause-read : goal.returns-clause-read
returns-clause-read g c clean T at collector numbers =
    let clean_reservations = early c.read-5.ensures.only clean in
    let clean_jobs = early c.read-4.ensures.only clean_reservations in
    let clean_boards = early c.read-3.ensures.only clean_jobs in
    let clean_types = early c.read-2.ensures.only clean_boards in
    let at_types = c.read.ensures.only.stands clean_types _ T at in
    let at_boards = c.read-2.ensures.only.stands clean_boards _ T at_types in
    let at_jobs = c.read-3.ensures.only.stands clean_jobs _ T at_boards in
    let at_reservations = c.read-4.ensures.only.stands clean_reservations _ T at_jobs in
    let rows : Rows = record {
      types = c.in_ok-read.field-0;
      boards = c.in_ok-read-2.field-0;
      jobs = c.in_ok-read-3.field-0;
      reservations = c.in_ok-read-4.field-0;
      kept = c.in_ok-read-5.field-0;
      meta = c.args.meta;
    } in
    reads c.args.edition rows T (c.in_ok-read.ensures.read clean_types T at) (c.in_ok-read-2.ensures.read clean_boards T at_types) (c.in_ok-read-3.ensures.read clean_jobs T at_boards)
    (c.in_ok-read-4.ensures.read clean_reservations T at_jobs) (c.in_ok-read-5.ensures.read clean T at_reservations) collector numbers
