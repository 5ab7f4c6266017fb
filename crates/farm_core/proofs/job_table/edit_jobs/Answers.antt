use Rattle.std.proofs.Common.{refl}
use Rattle.farm_types.specs.declared.rows.JobRow.{JobRow}
use Rattle.farm_core.specs.Edits.{first_of}
use Rattle.farm_core.proofs.EditLemmas.{keeps_fit}
use Rattle.farm_core.proofs.Windows.{none_before, none_behind, places_rise}
use Rattle.farm_core.proofs.job_table.edit_jobs.Goals as goal

pub change_between-requires-clause-keeps : goal.change_between-requires-clause-keeps
change_between-requires-clause-keeps c = record { key = λ j. refl; fits = keeps_fit c.args.edit }

pub change_between-requires-clause-start : goal.change_between-requires-clause-start
change_between-requires-clause-start c =
    places_rise (λ (r : JobRow). r.number) 4 c.args.jobs.now.rows (first_of c.args.edit.jobs) c.place_of-start.result c.place_near-end.result
    c.place_of-start.ensures.within c.place_near-end.ensures.within
    (rw (← c.first-first.ensures) c.place_of-start.ensures.place) (rw (← c.first-first.ensures) c.place_near-end.ensures.place)

pub change_between-requires-clause-before : goal.change_between-requires-clause-before
change_between-requires-clause-before c =
    none_before c.args.jobs.now.rows c.args.edit.jobs c.rows-rows.ensures.fit c.place_of-start.result
    c.place_of-start.ensures.within (rw (← c.first-first.ensures) c.place_of-start.ensures.place)

pub change_between-requires-clause-behind : goal.change_between-requires-clause-behind
change_between-requires-clause-behind c =
    none_behind c.args.jobs.now.rows c.args.edit.jobs c.rows-rows.ensures.fit c.place_near-end.result
    (rw (← c.first-first.ensures) c.place_near-end.ensures.place)
