use Rattle.std.proofs.Common.{◌≡◌, ◌∙◌, Bool, true, false, arith, refl, subst, sym}
use mir.Val.{bool_byte}
use Rattle.farm_core.specs.Came.{seen}
use Rattle.farm_core.specs.Plain.{plain_farm}
use Rattle.farm_core.specs.Serving.{Begins, count_after}
use Rattle.farm_core.proofs.Trying.{former_waits, none_first, one_first}
use Rattle.farm_core.proofs.tables.Tables.serve_former.Goals as goal

pub returns-then-boards-eq0-clause-begun : goal.returns-then-boards-eq0-clause-begun
returns-then-boards-eq0-clause-begun c =
    none_first (seen c.args.self.now) c.args.former c.requires.sound c.requires.fits (sym c.waits_for-boards.ensures ∙ c.if-boards-eq0.true)

pub try_claim-requires-clause-waits : goal.try_claim-requires-clause-waits
try_claim-requires-clause-waits c =
    former_waits (plain_farm c.args.self.now) c.args.former c.waits_for-boards.result c.requires.sound c.waits_for-boards.ensures (λ none. omega (arith, none, c.if-boards-eq0.false))

-- one where it was served
as_counted : (v : Bool) → count_after 0 v ≡ bool_byte v
as_counted true = refl
as_counted false = refl

pub returns-clause-begun : goal.returns-clause-begun
returns-clause-begun c =
    let it = former_waits (plain_farm c.args.self.now) c.args.former c.waits_for-boards.result c.requires.sound c.waits_for-boards.ensures (λ none. omega (arith, none, c.if-boards-eq0.false)) in
    subst (λ n. Begins (seen c.args.self.now) c.args.former n (seen c.try_claim.new.self)) (as_counted c.in_ok-served.served ∙ sym c.from.ensures)
    (one_first (seen c.args.self.now) (seen c.try_claim.new.self) c.args.former c.in_ok-served.served it.0 c.requires.sound c.requires.fits it.1 it.2 it.3
    (c.in_ok-served.ensures.serves it.0 it.2 it.3 it.1))
