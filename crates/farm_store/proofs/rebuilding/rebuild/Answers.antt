use Rattle.std.proofs.Common.{◌≡◌, ◌⊎◌, true, refl, inl, inr, sym, subst, arith, rules}
use Rattle.farm_store.proofs.Names.{empty_farm, HasCleanDisk, Holds, IsInside, put_rows, SeesSixTables, Stands, state, Trees}
use Rattle.farm_store.specs.Columns.{rows_of}
use Rattle.farm_store.proofs.Commits.{committed, left_before}
use Rattle.farm_store.proofs.rebuilding.rebuild.Goals as goal
use Rattle.farm_store.proofs.rebuilding.rebuild.Goals.{After-commit}
use Rattle.farm_store.proofs.rebuilding.rebuild.Given.{Over}

-- the commit left what was there before, or the new tables
stop : (g : Over) (c : After-commit g) (db : Trees) → HasCleanDisk (state g.S.Store c.commit.new.self.0) → SeesSixTables (state g.S.Store c.args.conn.now) → g.S.Store.recovers c.commit.new.self.0.store db
    → (state g.S.Store c.args.conn.now).may_leave db ⊎ Holds db (rows_of (put_rows empty_farm c.args.rows.now))
stop g c db late has leaves =
    let wrote = state g.S.Store c.rebuild_all.new.tx.conn.now in
    let early : HasCleanDisk wrote = omega (arith, c.commit.ensures.survives.clean) in
    let is = c.transaction-tx.ensures.begun in
    elim (c.commit.ensures.survives.crash late db leaves) [
      | inl earlier ↦
          let before = left_before (state g.S.Store c.transaction-tx.result.conn.now) wrote c.rebuild_all.ensures.goes_on.survives early db earlier in
          inl (subst (λ h. g.S.Store.recovers h.store db) {y = record c.args.conn.now { in_transaction = true }} is before)
      | inr now ↦
          let made = c.in_ok-rebuild_all.ensures.rebuilt early (rw is refl) (rw is has) in
          let held = subst (λ (t : Trees). Holds t (rows_of (put_rows empty_farm c.in_ok-tagged.tagged.rows.now))) (sym now) (made.0.shown made.1).holds in
          inr (subst (λ rows. Holds db (rows_of (put_rows empty_farm rows))) c.in_ok-tagged.ensures held)
    ]

pub returns-clause-stop : goal.returns-clause-stop
returns-clause-stop g c clean has db may = stop g (goal.at.returns-clause-stop g c).After-commit db (search rules) has (search rules)

pub returns-in_err-commit-clause-stop : goal.returns-in_err-commit-clause-stop
returns-in_err-commit-clause-stop g c clean has db may = stop g (goal.at.returns-in_err-commit-clause-stop g c).After-commit db (search rules) has (search rules)

pub returns-clause-ok : goal.returns-clause-ok
returns-clause-ok g c clean has =
    let end = c.commit.new.self.0 in
    let late : HasCleanDisk (state g.S.Store end) = search rules in
    let wrote = state g.S.Store c.rebuild_all.new.tx.conn.now in
    let early : HasCleanDisk wrote = omega (arith, c.commit.ensures.survives.clean) in
    let is = c.transaction-tx.ensures.begun in
    let made = c.in_ok-rebuild_all.ensures.rebuilt early (rw is refl) (rw is has) in
    let inside = subst (λ rows. IsInside wrote (rows_of (put_rows empty_farm rows))) c.in_ok-tagged.ensures made.0 in
    let ok = c.in_ok-commit.ensures.ok late in
    let after = rows_of (put_rows empty_farm c.args.rows.now) in
    let stands : Stands (state g.S.Store end) after = committed wrote (state g.S.Store end) after inside ok.1 (λ db may. g.met.S.Store.settled end.store db ok.1.is_open may) in
    search rules
