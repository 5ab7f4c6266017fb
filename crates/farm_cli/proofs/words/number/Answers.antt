use Rattle.std.proofs.Common.{option_and_then, ◌∙◌, ap}
use Rattle.std.specs.Str.Parse.{ParsesUnsigned, ExplainsUnsignedError, HasUnsignedDigitsIfOk}
use Rattle.clap.specs.Words.{found_of, one_text}
use Rattle.clap.proofs.WalkLemmas.{one_text-rows}
use Rattle.farm_cli.specs.Orders.{u64_in}
use Rattle.farm_cli.proofs.Readings.{number_read}
use Rattle.farm_cli.proofs.words.number.Goals as goal

pub returns : goal.returns
returns c =
    number_read (λ bs r. ParsesUnsigned 64 10 bs r × ExplainsUnsignedError 10 bs r × HasUnsignedDigitsIfOk bs r)
    (one_text (found_of c.args.given.now) c.args.id.now) c.get_one.result (λ t x g. g.0) c.get_one.ensures.none c.get_one.ensures.value
    ∙ ap (option_and_then u64_in) (one_text-rows (found_of c.args.given.now) c.args.id.now)
