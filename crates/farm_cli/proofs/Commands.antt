-- A command with one more argument, or one more subcommand.
use Rattle.std.proofs.Common.{false, Bool, Result, Ok, Err, IfOk, ◌≡◌, ◌∙◌, ◌||◌, ap}
use Rattle.std.specs.declared.alloc.AllocError.{AllocError}
use Rattle.clap.specs.Built.{AddsArg, AddsSubcommand}
use Rattle.clap.specs.Words.{App, Rule, Shape, app_of, rule_of, with_rule, with_subcommand}
use Rattle.clap.specs.declared.builder.arg.Arg.{Arg}
use Rattle.clap.specs.declared.builder.command.Command.{Command}
use Rattle.clap.specs.declared.builder.command.Command.TheViews.{out-Command}
use Rattle.farm_cli.specs.App.{AddsShape}

-- the command reads as the app, and none of its arguments is global
abbrev pub IsApp : App → Command → Type 0
IsApp app c = (app_of c ≡ app) × ((out-Command c).has_globals ≡ false)

pub rule_added : (app : App) (r : Rule) (old : Command) (a : Arg) (new : Command) → AddsArg old a new → rule_of a ≡ r → a.global ≡ false
    → IsApp app old → IsApp (with_rule app r) new
rule_added app r old a new adds rule local is = (
  adds.shape local ∙ (ap (λ (x : App). with_rule x (rule_of a)) is.0 ∙ ap (λ (x : Rule). with_rule app x) rule),
  adds.globals ∙ (ap (λ (b : Bool). b || a.global) is.1 ∙ local),
)

adds_shape : (app : App) (c : Command) → IsApp app c → AddsShape app.top c
adds_shape app c is = λ old new adds. adds.shape is.1 ∙ ap (λ (x : App). with_subcommand (app_of old) x.top) is.0

pub last_rule : (app : App) (r : Rule) (old : Command) (a : Arg) (result : Result Command AllocError) → IfOk result (λ new. AddsArg old a new)
    → rule_of a ≡ r → a.global ≡ false → IsApp app old → IfOk result (AddsShape (with_rule app r).top)
last_rule app r old a (Ok new) adds rule local is = adds_shape (with_rule app r) new (rule_added app r old a new adds rule local is)
last_rule app r old a (Err e) adds rule local is = tt

pub sub_added : (app : App) (shape : Shape) (old sub new : Command) → AddsSubcommand old sub new → AddsShape shape sub → app_of old ≡ app
    → app_of new ≡ with_subcommand app shape
sub_added app shape old sub new adds is before = is old new adds ∙ ap (λ (x : App). with_subcommand x shape) before

pub last_sub : (app : App) (shape : Shape) (old sub : Command) (result : Result Command AllocError) → IfOk result (λ new. AddsSubcommand old sub new)
    → AddsShape shape sub → app_of old ≡ app → IfOk result (λ new. app_of new ≡ with_subcommand app shape)
last_sub app shape old sub (Ok new) adds is before = sub_added app shape old sub new adds is before
last_sub app shape old sub (Err e) adds is before = tt
