use Rattle.std.proofs.Common.{◌+◌, ◌<◌, List, ℕ, drop, get_or, length, refl, ap, sym, ◌∙◌, arith}
use Rattle.farm_core.proofs.Names.{BoardRow, bytes_eq, fold, Holder, JobState, recursion_from_All, State, zip}
use Rattle.farm_core.specs.Came.{Seen, seen, seen_at}
use Rattle.farm_core.specs.Plain.{plain_farm}
use Rattle.farm_core.specs.Serving.{assign_named, names_at}
use Rattle.farm_core.proofs.Places.{board_at, long_same, name_same, name_there, named, names_long, names_stay}
use Rattle.farm_core.proofs.Serving.{names_of, pairs_more, pairs_end, small_at}
use Rattle.farm_core.proofs.Steps.{lead_on_join}
use Rattle.farm_core.proofs.tables.Tables.assign_jobs.Goals as goal

pub assign_job-requires-clause-within : goal.assign_job-requires-clause-within
assign_job-requires-clause-within c =
    omega (arith, c.requires.within c.loop-at.at 0 (omega arith), long_same c.args.self.now.boards.rows c.loop-at.self.boards.rows c.loop-at.invariant.names)

pub assign_job-requires-clause-small : goal.assign_job-requires-clause-small
assign_job-requires-clause-small c = small_at c.args.numbers.now c.loop-at.at c.requires.small (omega arith)

pub loop-at-preserved : goal.loop-at-preserved
loop-at-preserved c =
    let T = c.args.self.now in
    let S = c.loop-at.self in
    let k = c.loop-at.at in
    let before = c.loop-at.invariant in
    let places = c.args.places.now in
    let numbers = c.args.numbers.now in
    let p = get_or places k 0 in
    let names : List (List ℕ) = names_at T.boards.rows places in
    let all = recursion_from_All (λ at. at < length T.boards.rows) places c.requires.within in
    let within : p < length S.boards.rows = omega (arith, c.requires.within k 0 (omega arith), long_same T.boards.rows S.boards.rows before.names) in
    let it = board_at S.boards.rows p within in
    let made = c.in_ok-assign_job.ensures it.0 it.1 in
    let there = name_there T.boards.rows places k it.0.name all (omega arith) (sym (name_same T.boards.rows S.boards.rows before.names p) ∙ named S.boards.rows p it.0 within it.1) in
    let more = pairs_more numbers names k _ it.0.name (omega arith) (omega (arith, names_long T.boards.rows places all)) refl there in
    record {
      now = ap (λ (s : Seen). seen_at (fold (assign_named JobState.Scheduled) s.farm (drop (k + 1) (zip numbers names))) s) made.now
          ∙ sym (ap (λ pairs. seen_at (fold (assign_named JobState.Scheduled) (plain_farm S) pairs) (seen S)) more)
          ∙ before.now;
      names = ap (λ (s : Seen). names_of s.farm.boards) made.now
          ∙ names_stay (λ (c : BoardRow). bytes_eq c.name it.0.name) (Holder.Job (get_or numbers k 0)) State.Reserved S.boards.rows
          ∙ before.names;
      logs = lead_on_join _ _ _ before.logs made.logs;
    }

pub returns : goal.returns
returns c =
    let T = c.args.self.now in
    let S = c.loop-at.self in
    let places = c.args.places.now in
    let long = names_long T.boards.rows places (recursion_from_All (λ at. at < length T.boards.rows) places c.requires.within) in
    record {
      now = sym (ap (λ pairs. seen_at (fold (assign_named JobState.Scheduled) (plain_farm S) pairs) (seen S)) (pairs_end c.args.numbers.now (names_at T.boards.rows places) c.loop-at.at (λ a b. omega (arith, long))))
          ∙ c.loop-at.invariant.now;
      logs = c.loop-at.invariant.logs;
    }
