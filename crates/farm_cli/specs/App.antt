-- The program's words as `clap` is given them: one subcommand for each order.
use Rattle.std.specs.Prelude.{◌≡◌, ℕ, Bool, Some, false, true, codes}
use Rattle.clap.specs.Simple.{on_top}
use Rattle.clap.specs.Words.{AddsSubcommand, App, Rule, Shape, Text, app_of, new_app, new_rule, with_rule, with_subcommand}
use Rattle.clap.specs.declared.builder.action.ArgAction.TheVariants.{Set, SetTrue}
use Rattle.clap.specs.declared.builder.command.Command.{Command}
use Rattle.clap.specs.declared.builder.value_parser.ValueParser.TheVariants.{Unsigned}

-- the ports are 1 to this one
abbrev pub last_port : ℕ
last_port = 65535

-- how far a report's clock may be from UTC, in minutes
abbrev pub most_minutes : ℕ
most_minutes = 840

-- `--memory`, a flag
abbrev pub memory_rule : Rule
memory_rule = record (new_rule (codes "memory")) {
  long = Some (codes "memory");
  action = Some SetTrue;
}

-- `--name VALUE`, any text
abbrev pub text_rule : Text → Bool → Rule
text_rule name required = record (new_rule name) {
  long = Some name;
  required = required;
  action = Some Set;
  value_names = 1;
}

-- `--name NUMBER`, from `low` to `high`
abbrev pub number_rule : Text → Bool → ℕ → ℕ → Rule
number_rule name required low high = record (text_rule name required) {
  parser = Some (Unsigned low high);
}

-- a word of its own, which has to be there
abbrev pub positional_rule : Text → Rule
positional_rule name = record (new_rule name) {
  required = true;
  action = Some Set;
  value_names = 1;
}

-- `--db FILE`
abbrev pub db_rule : Bool → Rule
db_rule required = text_rule (codes "db") required

-- `--at SECONDS`, any `u64`
abbrev pub at_rule : Rule
at_rule = number_rule (codes "at") true 0 18446744073709551615

-- `--port PORT`
abbrev pub port_rule : Rule
port_rule = number_rule (codes "port") true 1 last_port

-- `--max CONNECTIONS`, any `u64`
abbrev pub max_rule : Rule
max_rule = number_rule (codes "max") true 0 18446744073709551615

-- `--east MINUTES` or `--west MINUTES`
abbrev pub offset_rule : Text → Rule
offset_rule name = number_rule name false 0 most_minutes

-- `once --memory --at SECONDS` or `once --db FILE --at SECONDS`
abbrev pub once_app : App
once_app = with_rule (with_rule (with_rule (new_app (codes "once"))
    memory_rule) (db_rule false)) at_rule

-- `init --db FILE`
abbrev pub init_app : App
init_app = with_rule (new_app (codes "init")) (db_rule true)

-- `migrate --db FILE`
abbrev pub migrate_app : App
migrate_app = with_rule (new_app (codes "migrate")) (db_rule true)

-- `import --db FILE --at SECONDS LAB`
abbrev pub import_app : App
import_app = with_rule (with_rule (with_rule (new_app (codes "import"))
    (db_rule true)) at_rule) (positional_rule (codes "lab"))

-- `serve --db FILE --port PORT --max CONNECTIONS`
abbrev pub serve_app : App
serve_app = with_rule (with_rule (with_rule (new_app (codes "serve"))
    (db_rule true)) port_rule) max_rule

-- `report --db FILE [--east MINUTES] [--west MINUTES] WHICH`
abbrev pub report_app : App
report_app = with_rule (with_rule (with_rule (with_rule (new_app (codes "report"))
    (db_rule true)) (offset_rule (codes "east"))) (offset_rule (codes "west")))
    (positional_rule (codes "which"))

-- the program: it prints its version, or one of its subcommands has to follow
abbrev pub bare_app : App
bare_app = on_top (λ s. record s { has_version = true; subcommand_required = true })
    (new_app (codes "farm"))

-- with these
abbrev pub farm_app : App
farm_app = with_subcommand (with_subcommand (with_subcommand (with_subcommand (with_subcommand
    (with_subcommand bare_app
    once_app.top) init_app.top) migrate_app.top) import_app.top) serve_app.top) report_app.top

-- a command that is this subcommand of each command that it is added to
abbrev pub AddsShape : Shape → Command → Type 0
AddsShape shape sub = (old new : Command) → AddsSubcommand old sub new
    → app_of new ≡ with_subcommand (app_of old) shape
