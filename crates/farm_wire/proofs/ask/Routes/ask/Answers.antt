-- The parts are those of the request that the bytes spell.
use Rattle.std.proofs.Common.{subst}
use Rattle.farm_wire.specs.Asked.{ask, shown_ask}
use Rattle.farm_types.specs.Names.{OrNoMemory}
use Rattle.farm_wire.specs.Reading.{denial_of}
use Rattle.farm_wire.proofs.ask.Routes.ask.Goals as goal

pub returns : goal.returns
returns c request spells =
    subst (λ r. OrNoMemory denial_of shown_ask c.meaning.result (ask r c.args.now)) (c.parts_of.ensures request spells) c.meaning.ensures
