use Rattle.std.proofs.Common.{arith, rules}
use Rattle.farm_store.proofs.Names.{farm_of, HasCleanDisk, Stands, state}
use Rattle.farm_store.specs.Columns.{first_rows_of, rows_of}
use Rattle.farm_store.proofs.Commits.{begun, committed}
use Rattle.farm_store.proofs.raising.raise.Goals as goal

pub returns-clause-ok : goal.returns-clause-ok
returns-clause-ok g c clean at =
    let end = c.commit.new.self.0 in
    let late : HasCleanDisk (state g.S.Store end) = search rules in
    let wrote = state g.S.Store c.raise_all.new.tx.conn.now in
    let early : HasCleanDisk wrote = omega (arith, c.commit.ensures.survives.clean) in
    let inside = begun g.S.Store c.args.conn.now c.transaction-tx.result.conn.now c.transaction-tx.ensures.begun (first_rows_of (farm_of c.args.rows.now)) at in
    let put = c.in_ok-raise_all.ensures.raised early inside in
    let ok = c.in_ok-commit.ensures.ok late in
    let after = rows_of (farm_of c.args.rows.now) in
    let stands : Stands (state g.S.Store end) after = committed wrote (state g.S.Store end) after put.0 ok.1 (λ db may. g.met.S.Store.settled end.store db ok.1.is_open may) in
    search rules
