use Rattle.std.proofs.Common.{◌≡◌, true, ap, ◌∙◌, Err, rules}
use Rattle.sqlite.specs.Held.{state}
use Rattle.farm_keep.proofs.MigrateLemmas.{no_farm, not_read, not_written, written}
use Rattle.farm_keep.proofs.PutLemmas.{small_rows}
use Rattle.farm_keep.proofs.reading.migrate.Goals as goal

pub returns-in_err-rows : goal.returns-in_err-rows
returns-in_err-rows g c = not_read c.load_first.ensures.only c.load_first.ensures.reads
    c.from_residual.result c.in_err-rows.field-0.0 c.in_err-rows.was c.load_first.ensures.never c.from_residual.ensures.1

pub returns-then-not-is_sound : goal.returns-then-not-is_sound
returns-then-not-is_sound g c = no_farm c.load_first.ensures.only c.load_first.ensures.reads c.in_ok-rows.was
    (λ is. let yes : c.is_sound.result ≡ true = c.is_sound.ensures.1 is in search rules)

pub raise-requires-clause-small : goal.raise-requires-clause-small
raise-requires-clause-small g c = (small_rows c.in_ok-rows.rows (c.is_sound.ensures.0 (search rules))).jobs

pub returns : goal.returns
returns g c = written c.load_first.ensures.only c.load_first.ensures.reads c.in_ok-rows.was (state g.S.Store c.raise.new.conn)
    (c.is_sound.ensures.0 (search rules)) c.in_ok-rows.ensures.none c.raise.ensures.autocommit c.raise.ensures.clean c.raise.ensures.stop
    c.in_ok-rows.ensures.ours c.in_ok-raise.ensures.ok

pub returns-in_err-raise : goal.returns-in_err-raise
returns-in_err-raise g c = not_written c.load_first.ensures.only c.load_first.ensures.reads c.in_ok-rows.was (state g.S.Store c.raise.new.conn)
    (c.is_sound.ensures.0 (search rules)) c.in_ok-rows.ensures.none c.raise.ensures.autocommit c.raise.ensures.clean c.raise.ensures.stop
    c.from_residual-in_err-raise.result c.in_err-raise.field-0.0 c.from_residual-in_err-raise.ensures.1 c.in_err-raise.ensures.fault
    (λ is. ap (λ h. state g.S.Store h) (c.raise.ensures.memory (c.in_err-raise.was ∙ ap Err is)))
