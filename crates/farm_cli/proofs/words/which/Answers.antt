use Rattle.std.proofs.Common.{None, Some, codes, option_and_then, ◌≡◌, ◌∙◌, ap, rules}
use Rattle.clap.specs.Words.{first_value, found_of}
use Rattle.clap.proofs.WalkLemmas.{first_value-rows}
use Rattle.farm_cli.specs.Orders.{report_of}
use Rattle.farm_cli.proofs.words.which.Goals as goal

pub returns-in_err-get_str : goal.returns-in_err-get_str
returns-in_err-get_str c =
    let given : None ≡ first_value (found_of c.args.given.now) (codes "which") = search rules in
    let none : c.from_residual.result ≡ None = search rules in
    none ∙ ap (option_and_then report_of) (given ∙ first_value-rows (found_of c.args.given.now) (codes "which"))

pub returns : goal.returns
returns c =
    let given : Some c.in_ok-get_str.field-0.now ≡ first_value (found_of c.args.given.now) (codes "which") = search rules in
    c.report_called.ensures ∙ ap (option_and_then report_of) (given ∙ first_value-rows (found_of c.args.given.now) (codes "which"))
