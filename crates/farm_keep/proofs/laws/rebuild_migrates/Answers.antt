use Rattle.std.proofs.Common.{◌≡◌, true, ap, ◌∙◌, Err, rules}
use Rattle.sqlite.specs.Held.{state}
use Rattle.farm_types.specs.Names.{farm_of, IsSound}
use Rattle.farm_keep.proofs.MigrateLemmas.{left_anew, made_anew, no_farm, not_read, not_written, written}
use Rattle.farm_keep.proofs.PutLemmas.{small_rows}
use Rattle.farm_keep.proofs.laws.rebuild_migrates.Goals as goal

pub returns-in_err-rows : goal.returns-in_err-rows
returns-in_err-rows g c = not_read c.load_first.ensures.only c.load_first.ensures.reads
    c.from_residual.result c.in_err-rows.field-0.0 c.in_err-rows.was c.load_first.ensures.never c.from_residual.ensures.1

pub returns-then-not-is_sound : goal.returns-then-not-is_sound
returns-then-not-is_sound g c = no_farm c.load_first.ensures.only c.load_first.ensures.reads c.in_ok-rows.was
    (λ is. let yes : c.is_sound.result ≡ true = c.is_sound.ensures.1 is in search rules)

pub rebuild-requires-clause-small : goal.rebuild-requires-clause-small
rebuild-requires-clause-small g c = small_rows c.in_ok-rows.rows (c.is_sound.ensures.0 (search rules))

pub returns : goal.returns
returns g c =
    let mid = state g.S.Store c.load_first.new.conn in
    let end = state g.S.Store c.rebuild.new.conn in
    let sound : IsSound (farm_of c.in_ok-rows.rows) = c.is_sound.ensures.0 (search rules) in
    written c.load_first.ensures.only c.load_first.ensures.reads c.in_ok-rows.was end
    sound c.in_ok-rows.ensures.none c.rebuild.ensures.autocommit c.rebuild.ensures.clean (left_anew mid end c.in_ok-rows.rows sound c.rebuild.ensures.stop)
    c.in_ok-rows.ensures.ours (made_anew mid end c.in_ok-rows.rows sound c.in_ok-rebuild.ensures.ok)

pub returns-in_err-rebuild : goal.returns-in_err-rebuild
returns-in_err-rebuild g c =
    let end = state g.S.Store c.rebuild.new.conn in
    let sound : IsSound (farm_of c.in_ok-rows.rows) = c.is_sound.ensures.0 (search rules) in
    not_written c.load_first.ensures.only c.load_first.ensures.reads c.in_ok-rows.was end sound c.in_ok-rows.ensures.none c.rebuild.ensures.autocommit
    c.rebuild.ensures.clean (left_anew (state g.S.Store c.load_first.new.conn) end c.in_ok-rows.rows sound c.rebuild.ensures.stop)
    c.from_residual-in_err-rebuild.result c.in_err-rebuild.field-0.0 c.from_residual-in_err-rebuild.ensures.1 c.in_err-rebuild.ensures.fault
    (λ is. ap (λ h. state g.S.Store h) (c.rebuild.ensures.memory (c.in_err-rebuild.was ∙ ap Err is)))
