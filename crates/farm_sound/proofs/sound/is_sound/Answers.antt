use Rattle.std.proofs.Common.{subst, sym}
use Rattle.farm_types.specs.Names.{farm_of}
use Rattle.farm_sound.proofs.Names.{Rows}
use Rattle.farm_sound.specs.ByRows.{IsSoundByRows}
use Rattle.farm_sound.proofs.ByRows.{sound_from_rows, rows_from_sound}
use Rattle.farm_sound.proofs.sound.is_sound.Goals as goal

pub returns-in-Some : goal.returns-in-Some
returns-in-Some c = (
  λ yes. sound_from_rows (farm_of c.args.rows.now) (subst (λ (r : Rows). IsSoundByRows (farm_of r)) c.in-Some.ensures.0 (c.is_sound_by_rows.ensures.0 yes)),
  λ is. c.is_sound_by_rows.ensures.1 (subst (λ (r : Rows). IsSoundByRows (farm_of r)) (sym c.in-Some.ensures.0) (rows_from_sound (farm_of c.args.rows.now) is)),
)

pub returns-in-None : goal.returns-in-None
returns-in-None c = (λ no. cc, λ is. absurd (c.in-None.ensures (rows_from_sound (farm_of c.args.rows.now) is).bounds))
