use Rattle.farm_cli.specs.App.{bare_app, import_app, init_app, migrate_app, once_app, report_app, serve_app}
use Rattle.farm_cli.proofs.Commands.{last_sub, sub_added}
use Rattle.farm_cli.proofs.words.farm_command.Goals as goal

pub returns : goal.returns
returns c =
    let first = sub_added bare_app once_app.top c.bare_command.result c.in_ok-once_command.field-0 c.in_ok-subcommand.field-0
    c.in_ok-subcommand.ensures c.in_ok-once_command.ensures c.bare_command.ensures in
    let second = sub_added _ init_app.top c.in_ok-subcommand.field-0 c.in_ok-init_command.field-0 c.in_ok-subcommand-2.field-0
    c.in_ok-subcommand-2.ensures c.in_ok-init_command.ensures first in
    let third = sub_added _ migrate_app.top c.in_ok-subcommand-2.field-0 c.in_ok-migrate_command.field-0 c.in_ok-subcommand-3.field-0
    c.in_ok-subcommand-3.ensures c.in_ok-migrate_command.ensures second in
    let fourth = sub_added _ import_app.top c.in_ok-subcommand-3.field-0 c.in_ok-import_command.field-0 c.in_ok-subcommand-4.field-0
    c.in_ok-subcommand-4.ensures c.in_ok-import_command.ensures third in
    let fifth = sub_added _ serve_app.top c.in_ok-subcommand-4.field-0 c.in_ok-serve_command.field-0 c.in_ok-subcommand-5.field-0
    c.in_ok-subcommand-5.ensures c.in_ok-serve_command.ensures fourth in
    last_sub _ report_app.top c.in_ok-subcommand-5.field-0 c.in_ok-report_command.field-0 c.subcommand-6.result
    c.subcommand-6.ensures c.in_ok-report_command.ensures fifth
