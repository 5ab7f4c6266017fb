use Rattle.std.proofs.Common.{◌≡◌, ◌≢◌, Some, None, Err, refl, sym, ap, ◌∙◌, subst}
use Rattle.std.specs.Prelude.{IfErr}
use Rattle.std.proofs.lemmas.Option.{same_Some}
use Rattle.sqlite.specs.Held.{state}
use Rattle.farm_types.specs.Names.{IsSound}
use Rattle.farm_store.specs.Columns.{first_schema, rows_of, second_schema}
use Rattle.farm_store.specs.declared.fault.StoreFault.{StoreFault}
use Rattle.farm_store.proofs.SoundReadable.{sound_is_readable}
use Rattle.farm_core.specs.declared.farm.BadRows.{BadRows}
use Rattle.farm_keep.specs.Faults.{IsFindFault, rows_fault, fault_of_store}
use Rattle.farm_keep.specs.Found.{Finds}
use Rattle.farm_keep.specs.declared.fault.KeepFault.{KeepFault}
use Rattle.farm_keep.proofs.MigrateLemmas.{from_reported, looks_read, looks_so, ok_is_no_err, one_reported, same_err}
use Rattle.farm_keep.proofs.RunLemmas.{err_is}
use Rattle.farm_keep.proofs.reading.found.Goals as goal

may_come : (e : StoreFault) → e ≢ StoreFault.NewSchema → IsFindFault (fault_of_store e)
may_come StoreFault.NoMemory never = tt
may_come StoreFault.Store never = tt
may_come StoreFault.BadStore never = tt
may_come StoreFault.OldSchema never = tt
may_come StoreFault.NewSchema never = absurd (never refl)

from_unsound : (e : BadRows) → rows_fault e ≡ KeepFault.BadStore → e ≡ BadRows.Unsound
from_unsound BadRows.Unsound is = refl
from_unsound BadRows.NoMemory is = cc

never_old : (e : BadRows) → rows_fault e ≡ KeepFault.OldSchema → ⊥
never_old BadRows.Unsound is = cc
never_old BadRows.NoMemory is = cc

rows_may_come : (e : BadRows) → IsFindFault (rows_fault e)
rows_may_come BadRows.Unsound = tt
rows_may_come BadRows.NoMemory = tt

pub returns-in_err-rows-clause-finds : goal.returns-in_err-rows-clause-finds
returns-in_err-rows-clause-finds g c = λ clean.
    let reads = c.load.ensures.reads clean in
    let was = c.in_err-rows.was in
    let reported = err_is c.from_residual.result (fault_of_store c.in_err-rows.field-0.0) c.from_residual.ensures.1 in
    subst (λ r. Finds r (state g.S.Store c.args.conn.now)) (sym reported) (record {
      rows = tt;
      exact = tt;
      bad = λ is F sound at. reads.bad (from_reported was StoreFault.BadStore is refl) F (sound_is_readable F sound) at;
      old = λ is T at. reads.other (from_reported was StoreFault.OldSchema is refl) T at;
      known = λ T at first. one_reported was Err StoreFault.OldSchema StoreFault.Store ((reads.schema T at).known first);
      version = looks_so was second_schema first_schema StoreFault.OldSchema (state g.S.Store c.args.conn.now).now
          reads.version.reported reads.version.known reads.version.neither;
    })

pub returns-in_err-rows-clause-fault : goal.returns-in_err-rows-clause-fault
returns-in_err-rows-clause-fault g c =
    let reported = err_is c.from_residual.result (fault_of_store c.in_err-rows.field-0.0) c.from_residual.ensures.1 in
    subst (λ r. IfErr r IsFindFault) (sym reported) (may_come c.in_err-rows.field-0.0 (λ is. c.load.ensures.never (c.in_err-rows.was ∙ ap Err is)))

pub returns-in_err-from_rows-clause-finds : goal.returns-in_err-from_rows-clause-finds
returns-in_err-from_rows-clause-finds g c = λ clean.
    let reads = c.load.ensures.reads clean in
    let was = c.in_ok-rows.was in
    let fault = c.in_err-from_rows.field-0.0 in
    let reported = err_is c.from_residual-in_err-from_rows.result (rows_fault fault) c.from_residual-in_err-from_rows.ensures.1 in
    subst (λ r. Finds r (state g.S.Store c.args.conn.now)) (sym reported) (record {
      rows = tt;
      exact = tt;
      bad = λ is F sound at.
          let same = (c.in_ok-rows.ensures.reads clean).farm F (sound_is_readable F sound) at in
          c.in_err-from_rows.ensures.refused.0 (ap Err (from_unsound fault (same_err is refl))) (subst IsSound (sym same) sound);
      old = λ is T at. absurd (never_old fault (same_err is refl));
      known = λ T at first. ok_is_no_err was ((reads.schema T at).known first);
      version = looks_read was (Some (rows_fault fault)) second_schema first_schema StoreFault.OldSchema (state g.S.Store c.args.conn.now).now
          (λ is. never_old fault (same_Some _ _ is)) reads.version.known reads.version.neither;
    })

pub returns-in_err-from_rows-clause-fault : goal.returns-in_err-from_rows-clause-fault
returns-in_err-from_rows-clause-fault g c =
    let reported = err_is c.from_residual-in_err-from_rows.result (rows_fault c.in_err-from_rows.field-0.0) c.from_residual-in_err-from_rows.ensures.1 in
    subst (λ r. IfErr r IsFindFault) (sym reported) (rows_may_come c.in_err-from_rows.field-0.0)

pub returns-clause-finds : goal.returns-clause-finds
returns-clause-finds g c = λ clean.
    let reads = c.load.ensures.reads clean in
    record {
      rows = λ T at. ap rows_of c.in_ok-from_rows.ensures.farm ∙ (c.in_ok-rows.ensures.reads clean).rows T at;
      exact = λ F sound at. c.in_ok-from_rows.ensures.farm ∙ (c.in_ok-rows.ensures.reads clean).farm F (sound_is_readable F sound) at;
      bad = λ e. absurd (let h = e in cc);
      old = λ e. absurd (let h = e in cc);
      known = λ T at first. ok_is_no_err c.in_ok-rows.was ((reads.schema T at).known first);
      version = looks_read c.in_ok-rows.was None second_schema first_schema StoreFault.OldSchema (state g.S.Store c.args.conn.now).now
          (λ e. let h = e in cc) reads.version.known reads.version.neither;
    }
