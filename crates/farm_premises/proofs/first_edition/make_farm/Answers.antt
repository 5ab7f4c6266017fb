use Rattle.std.proofs.Common.{refl, arith, rules}
use Rattle.sqlite.specs.Held.{state}
use Rattle.sqlite.specs.State.{HasCleanDisk}
use Rattle.farm_types.specs.Names.{empty_farm}
use Rattle.farm_store.specs.Columns.{first_rows_of}
use Rattle.farm_store.specs.Holds.{Stands}
use Rattle.farm_store.proofs.Commits.{committed}
use Rattle.farm_store.proofs.GoingOn.{was_clean}
use Rattle.farm_premises.proofs.first_edition.make_farm.Goals as goal

pub returns-clause-made : goal.returns-clause-made
returns-clause-made g c clean =
    let has = c.requires.bare in
    let end = c.commit.new.self.0 in
    let late : HasCleanDisk (state g.S.Store end) = search rules in
    let filled = state g.S.Store c.put_numbers.new.tx.conn.now in
    let made = state g.S.Store c.make_all.new.tx.conn.now in
    let filled_clean : HasCleanDisk filled = omega (arith, c.commit.ensures.survives.clean) in
    let made_clean = was_clean c.put_numbers.ensures.goes_on filled_clean in
    let is = c.transaction-tx.ensures.begun in
    let inside = c.in_ok-put_numbers.ensures.put filled_clean (c.in_ok-make_all.ensures.made made_clean (rw is refl) (rw is has)) in
    let ok = c.in_ok-commit.ensures.ok late in
    let stands : Stands (state g.S.Store end) (first_rows_of empty_farm) = committed filled (state g.S.Store end) (first_rows_of empty_farm) inside ok.1 (λ db may. g.met.S.Store.settled end.store db ok.1.is_open may) in
    search rules
