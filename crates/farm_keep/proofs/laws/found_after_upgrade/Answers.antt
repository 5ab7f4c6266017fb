use Rattle.std.proofs.Common.{Err, ap, ◌∙◌, arith}
use Rattle.sqlite.specs.Held.{state}
use Rattle.sqlite.specs.State.{HasCleanDisk}
use Rattle.farm_keep.proofs.LifeLemmas.{gives_farm}
use Rattle.farm_keep.proofs.MigrateLemmas.{left_either, never_bad, new_stands, own_fault, raised_stands, stands_either}
use Rattle.farm_keep.proofs.laws.found_after_upgrade.Goals as goal

pub returns-in-Ok-clause-gives : goal.returns-in-Ok-clause-gives
returns-in-Ok-clause-gives g c = λ clean F left sound holds on.
    let mid = state g.S.Store c.migrate.new.conn in
    let early : HasCleanDisk mid = omega (arith, c.found.ensures.only.clean) in
    let at = stands_either (state g.S.Store c.args.conn.now) left F (c.opened_stands.ensures on.opens on.live) on.on holds in
    let finds = c.found.ensures.finds clean in
    gives_farm c.found.result mid F sound.sound (raised_stands c.migrate.ensures early F sound c.in-Ok.is at) finds.exact finds.bad finds.old c.found.ensures.fault

pub returns-in-Ok-clause-left : goal.returns-in-Ok-clause-left
returns-in-Ok-clause-left g c = λ clean F left sound holds on db may.
    let early : HasCleanDisk (state g.S.Store c.migrate.new.conn) = omega (arith, c.found.ensures.only.clean) in
    let at = stands_either (state g.S.Store c.args.conn.now) left F (c.opened_stands.ensures on.opens on.live) on.on holds in
    left_either c.migrate.ensures early F sound at db (c.found.ensures.only.left clean db may)

pub returns-in-NewSchema-clause-gives : goal.returns-in-NewSchema-clause-gives
returns-in-NewSchema-clause-gives g c = λ clean F left sound holds on.
    let mid = state g.S.Store c.migrate.new.conn in
    let early : HasCleanDisk mid = omega (arith, c.found-in-NewSchema.ensures.only.clean) in
    let at = stands_either (state g.S.Store c.args.conn.now) left F (c.opened_stands.ensures on.opens on.live) on.on holds in
    let stands = new_stands c.migrate.ensures early F sound (c.in-Err.is ∙ ap Err c.in-NewSchema.is) at in
    let finds = c.found-in-NewSchema.ensures.finds clean in
    gives_farm c.found-in-NewSchema.result mid F sound.sound stands finds.exact finds.bad finds.old c.found-in-NewSchema.ensures.fault

pub returns-in-NewSchema-clause-left : goal.returns-in-NewSchema-clause-left
returns-in-NewSchema-clause-left g c = λ clean F left sound holds on db may.
    let early : HasCleanDisk (state g.S.Store c.migrate.new.conn) = omega (arith, c.found-in-NewSchema.ensures.only.clean) in
    let at = stands_either (state g.S.Store c.args.conn.now) left F (c.opened_stands.ensures on.opens on.live) on.on holds in
    left_either c.migrate.ensures early F sound at db (c.found-in-NewSchema.ensures.only.left clean db may)

pub returns-in_default-clause-gives : goal.returns-in_default-clause-gives
returns-in_default-clause-gives g c = λ clean F left sound holds on.
    let at = stands_either (state g.S.Store c.args.conn.now) left F (c.opened_stands.ensures on.opens on.live) on.on holds in
    record {
      exact = tt;
      fault = own_fault c.in-Err.fault c.in-Err.ensures.fault (λ same. never_bad c.migrate.ensures clean F sound (c.in-Err.is ∙ ap Err same) at) c.in_default.not-NewSchema;
    }

pub returns-in_default-clause-left : goal.returns-in_default-clause-left
returns-in_default-clause-left g c = λ clean F left sound holds on.
    left_either c.migrate.ensures clean F sound (stands_either (state g.S.Store c.args.conn.now) left F (c.opened_stands.ensures on.opens on.live) on.on holds)
