use Rattle.std.proofs.Common.{◌≡◌, Err, inl, inr, true, false, sym, subst, rules}
use Rattle.farm_store.proofs.Names.{cases_Bool, ReadsEdition, state, StoreFault}
use Rattle.farm_store.proofs.ReadFarm.{beside_others}
use Rattle.farm_store.proofs.queries.read_edition.Goals as goal

pub returns-clause-reads : goal.returns-clause-reads
returns-clause-reads g c clean =
    let e = c.args.edition in
    let s = state g.S.Store c.args.conn.now in
    let reads = c.read_any.ensures.reads clean in
    let opened = c.in_ok-rows.ensures.opened clean in
    elim (cases_Bool c.is_farm_schema-is_ours.result) [
      | inl is_ours ↦ let ours : c.is_farm_schema-is_ours.result ≡ true = is_ours in
          let same : c.ok_or.result ≡ c.read_any.result = search rules in
          subst (λ r. ReadsEdition e r s) (sym same) reads
      | inr is_not ↦ let others : c.is_farm_schema-is_ours.result ≡ false = is_not in
          let bad : c.ok_or.result ≡ Err StoreFault.BadStore = search rules in
          beside_others e c.read_any.result c.ok_or.result c.in_ok-rows.rows s c.in_ok-rows.was bad opened (λ is. search rules) reads
    ]
