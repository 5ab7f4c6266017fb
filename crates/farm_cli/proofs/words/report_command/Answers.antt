use Rattle.std.proofs.Common.{codes, rules, true}
use Rattle.clap.specs.Words.{new_app}
use Rattle.farm_cli.specs.App.{db_rule, offset_rule, positional_rule}
use Rattle.farm_cli.proofs.Commands.{IsApp, last_rule, rule_added}
use Rattle.farm_cli.proofs.words.report_command.Goals as goal

pub returns : goal.returns
returns c =
    let start : IsApp (new_app (codes "report")) c.about.result = (search rules, search rules) in
    let first = rule_added (new_app (codes "report")) (db_rule true) c.about.result c.file.result c.in_ok-arg.field-0
    c.in_ok-arg.ensures c.file.ensures.rule c.file.ensures.local start in
    let second = rule_added _ (offset_rule (codes "east")) c.in_ok-arg.field-0 c.help.result c.in_ok-arg-2.field-0
    c.in_ok-arg-2.ensures (search rules) (search rules) first in
    let third = rule_added _ (offset_rule (codes "west")) c.in_ok-arg-2.field-0 c.help-2.result c.in_ok-arg-3.field-0
    c.in_ok-arg-3.ensures (search rules) (search rules) second in
    last_rule _ (positional_rule (codes "which")) c.in_ok-arg-3.field-0 c.help-3.result c.arg-4.result
    c.arg-4.ensures (search rules) (search rules) third
