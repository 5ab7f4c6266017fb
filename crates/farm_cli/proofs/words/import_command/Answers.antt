use Rattle.std.proofs.Common.{codes, rules, true}
use Rattle.clap.specs.Words.{new_app}
use Rattle.farm_cli.specs.App.{at_rule, db_rule, positional_rule}
use Rattle.farm_cli.proofs.Commands.{last_rule, rule_added}
use Rattle.farm_cli.proofs.words.import_command.Goals as goal

pub returns : goal.returns
returns c =
    let first = rule_added (new_app (codes "import")) (db_rule true) c.about.result c.file.result c.in_ok-arg.field-0
    c.in_ok-arg.ensures c.file.ensures.rule c.file.ensures.local (search rules, search rules) in
    let second = rule_added _ at_rule c.in_ok-arg.field-0 c.moment.result c.in_ok-arg-2.field-0
    c.in_ok-arg-2.ensures c.moment.ensures.rule c.moment.ensures.local first in
    last_rule _ (positional_rule (codes "lab")) c.in_ok-arg-2.field-0 c.help.result c.arg-3.result
    c.arg-3.ensures (search rules) (search rules) second
