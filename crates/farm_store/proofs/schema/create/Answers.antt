use Rattle.std.proofs.Common.{true, ◌≡◌, ◌⊎◌, refl, inl, inr, sym, subst, arith, rules}
use Rattle.farm_store.proofs.Names.{empty_farm, HasCleanDisk, Holds, IsInside, IsMadeIn, no_schema, Stands, state, Trees}
use Rattle.farm_store.specs.Columns.{TableRows, no_rows, rows_of}
use Rattle.farm_store.proofs.Commits.{begun, begun_commit, committed, left_before, rolled_back}
use Rattle.farm_store.proofs.GoingOn.{was_clean}
use Rattle.farm_store.proofs.schema.create.Goals as goal
use Rattle.farm_store.proofs.schema.create.Goals.{After-commit}
use Rattle.farm_store.proofs.schema.create.Given.{Over}

-- the commit left what was there before, or the empty farm's tables
stop : (g : Over) (c : After-commit g) (db : Trees) → HasCleanDisk (state g.S.Store c.commit.new.self.0) → g.S.Store.recovers c.commit.new.self.0.store db → (state g.S.Store c.args.conn.now).may_leave db ⊎ IsMadeIn (state g.S.Store c.args.conn.now) db
stop g c db late leaves =
    let filled = state g.S.Store c.put_first_numbers.new.tx.conn.now in
    let made = state g.S.Store c.make_all.new.tx.conn.now in
    let begin = state g.S.Store c.transaction-tx.result.conn.now in
    let filled_clean : HasCleanDisk filled = omega (arith, c.commit.ensures.survives.clean) in
    let made_clean = was_clean c.put_first_numbers.ensures.goes_on filled_clean in
    let is = c.transaction-tx.ensures.begun in
    elim (c.commit.ensures.survives.crash late db leaves) [
      | inl earlier ↦
          let before = left_before begin made c.make_all.ensures.goes_on.survives made_clean db (left_before made filled c.put_first_numbers.ensures.goes_on.survives filled_clean db earlier) in
          inl (subst (λ h. g.S.Store.recovers h.store db) {y = record c.args.conn.now { in_transaction = true }} is before)
      | inr now ↦ inr (record {
        free = λ T at. c.in_ok-make_all.ensures.refused made_clean T (begun g.S.Store c.args.conn.now c.transaction-tx.result.conn.now is T at);
        made =
            let has : (state g.S.Store c.args.conn.now).now.schema ≡ no_schema = search rules in
            let there : IsInside made no_rows = c.in_ok-make_all.ensures.made made_clean (rw is refl) (rw is has) in
            let inside = c.in_ok-put_first_numbers.ensures.put filled_clean there in
            let still = c.in_ok-put_first_numbers.ensures.stays_open filled_clean there.inside in
            subst (λ (t : Trees). Holds t (rows_of empty_farm)) (sym now) (inside.shown still.1).holds;
      })
    ]

-- no farm's tables were there
free : (g : Over) (c : After-commit g) (T : TableRows) → HasCleanDisk (state g.S.Store c.commit.new.self.0) → ¬ Stands (state g.S.Store c.args.conn.now) T
free g c T late at =
    let filled : HasCleanDisk (state g.S.Store c.put_first_numbers.new.tx.conn.now) = omega (arith, c.commit.ensures.survives.clean) in
    c.in_ok-make_all.ensures.refused (was_clean c.put_first_numbers.ensures.goes_on filled) T (begun g.S.Store c.args.conn.now c.transaction-tx.result.conn.now c.transaction-tx.ensures.begun T at)

pub returns-in_err-commit-clause-stop : goal.returns-in_err-commit-clause-stop
returns-in_err-commit-clause-stop g c clean db may = stop g (goal.at.returns-in_err-commit-clause-stop g c).After-commit db (search rules) (search rules)

pub returns-clause-stop : goal.returns-clause-stop
returns-clause-stop g c clean db may = stop g (goal.at.returns-clause-stop g c).After-commit db (search rules) (search rules)

pub returns-clause-refused : goal.returns-clause-refused
returns-clause-refused g c clean T at = free g (goal.at.returns-clause-refused g c).After-commit T (search rules) at

pub returns-clause-stands : goal.returns-clause-stands
returns-clause-stands g c clean T at = absurd (free g (goal.at.returns-clause-stands g c).After-commit T (search rules) at)

pub returns-in_err-commit-clause-stands : goal.returns-in_err-commit-clause-stands
returns-in_err-commit-clause-stands g c clean T at = absurd (free g (goal.at.returns-in_err-commit-clause-stands g c).After-commit T (search rules) at)

pub returns-clause-ok : goal.returns-clause-ok
returns-clause-ok g c clean =
    let has : (state g.S.Store c.args.conn.now).now.schema ≡ no_schema = search rules in
    let end = c.commit.new.self.0 in
    let late : HasCleanDisk (state g.S.Store end) = search rules in
    let filled = state g.S.Store c.put_first_numbers.new.tx.conn.now in
    let made = state g.S.Store c.make_all.new.tx.conn.now in
    let filled_clean : HasCleanDisk filled = omega (arith, c.commit.ensures.survives.clean) in
    let made_clean = was_clean c.put_first_numbers.ensures.goes_on filled_clean in
    let is = c.transaction-tx.ensures.begun in
    let inside = c.in_ok-put_first_numbers.ensures.put filled_clean (c.in_ok-make_all.ensures.made made_clean (rw is refl) (rw is has)) in
    let ok = c.in_ok-commit.ensures.ok late in
    let stands : Stands (state g.S.Store end) (rows_of empty_farm) = committed filled (state g.S.Store end) (rows_of empty_farm) inside ok.1 (λ db may. g.met.S.Store.settled end.store db ok.1.is_open may) in
    search rules

pub returns-in_err-put_first_numbers-clause-stands : goal.returns-in_err-put_first_numbers-clause-stands
returns-in_err-put_first_numbers-clause-stands g c clean T at =
    let drop = c.drop-tx-in_err-put_first_numbers in
    let late : HasCleanDisk (state g.S.Store drop.new.self.0) = search rules in
    let filled_clean : HasCleanDisk (state g.S.Store c.put_first_numbers.new.tx.conn.now) = omega (arith, drop.ensures.survives.clean) in
    let made_clean = was_clean c.put_first_numbers.ensures.goes_on filled_clean in
    absurd (c.in_ok-make_all.ensures.refused made_clean T (begun g.S.Store c.args.conn.now c.transaction-tx.result.conn.now c.transaction-tx.ensures.begun T at))

pub returns-in_err-make_all-clause-stands : goal.returns-in_err-make_all-clause-stands
returns-in_err-make_all-clause-stands g c clean T at =
    let end = c.drop-tx.new.self.0 in
    let late : HasCleanDisk (state g.S.Store end) = search rules in
    let made = state g.S.Store c.make_all.new.tx.conn.now in
    let begin = state g.S.Store c.transaction-tx.result.conn.now in
    let early : HasCleanDisk made = omega (arith, c.drop-tx.ensures.survives.clean) in
    let is = c.transaction-tx.ensures.begun in
    let inside = begun g.S.Store c.args.conn.now c.transaction-tx.result.conn.now is T at in
    let shows = c.make_all.ensures.kept early T inside (begun_commit g.S.Store c.args.conn.now c.transaction-tx.result.conn.now is T at) in
    let stands : Stands (state g.S.Store end) T = rolled_back made (state g.S.Store end) T shows (c.drop-tx.ensures.undone late) (λ db may.
    at.left db (subst (λ h. g.S.Store.recovers h.store db) {y = record c.args.conn.now { in_transaction = true }} is (left_before begin made c.make_all.ensures.goes_on.survives early db (left_before made (state g.S.Store end) c.drop-tx.ensures.survives late db may)))) in
    search rules
