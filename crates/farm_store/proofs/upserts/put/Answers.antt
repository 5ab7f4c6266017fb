use Rattle.std.proofs.Common.{subst, arith, rules}
use Rattle.farm_store.proofs.Names.{HasCleanDisk, IsInside, put_rows, Stands, state}
use Rattle.farm_store.specs.Columns.{rows_of}
use Rattle.farm_store.proofs.Commits.{begun, committed}
use Rattle.farm_store.proofs.upserts.put.Goals as goal

pub returns-clause-ok : goal.returns-clause-ok
returns-clause-ok g c clean F at =
    let end = c.commit.new.self.0 in
    let late : HasCleanDisk (state g.S.Store end) = search rules in
    let wrote = state g.S.Store c.put_all.new.tx.conn.now in
    let early : HasCleanDisk wrote = omega (arith, c.commit.ensures.survives.clean) in
    let began = begun g.S.Store c.args.conn.now c.transaction-tx.result.conn.now c.transaction-tx.ensures.begun (rows_of F) at in
    let put = c.in_ok-put_all.ensures.put early F began in
    let inside = subst (λ rows. IsInside wrote (rows_of (put_rows F rows))) c.in_ok-tagged.ensures put.0 in
    let ok = c.in_ok-commit.ensures.ok late in
    let after = rows_of (put_rows F c.args.changes.now) in
    let stands : Stands (state g.S.Store end) after = committed wrote (state g.S.Store end) after inside ok.1 (λ db may. g.met.S.Store.settled end.store db ok.1.is_open may) in
    search rules
