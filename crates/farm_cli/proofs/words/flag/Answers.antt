use Rattle.std.proofs.Common.{false, codes, ◌∙◌, ap}
use Rattle.std.specs.Option.{option_map_or}
use Rattle.std.specs.Str.{bytes_eq}
use Rattle.clap.specs.Words.{found_of, one_text}
use Rattle.clap.proofs.WalkLemmas.{one_text-rows}
use Rattle.farm_cli.proofs.Readings.{flag_read}
use Rattle.farm_cli.proofs.words.flag.Goals as goal

pub returns : goal.returns
returns c =
    c.unwrap_or.ensures
    ∙ flag_read _ (one_text (found_of c.args.given.now) c.args.id.now) c.get_one.result c.get_one.ensures.none c.get_one.ensures.value
    ∙ ap (λ o. option_map_or (λ t. bytes_eq t (codes "true")) o false) (one_text-rows (found_of c.args.given.now) c.args.id.now)
