use Rattle.std.proofs.Common.{None, Some, ◌≡◌, ◌∙◌, ap, inl, inr, map, rules, string_bytes, sym, subst, true}
use Rattle.clap.specs.Words.{App, app_of, kind_of, subcommand_rows_of, takes}
use Rattle.clap.specs.declared.error.kind.ErrorKind.TheVariants.{OutOfMemory}
use Rattle.farm_cli.specs.App.{farm_app}
use Rattle.farm_cli.specs.Faults.{open_text}
use Rattle.farm_cli.specs.Orders.{form_of, order_in}
use Rattle.farm_cli.proofs.Outcomes.{memory_fault, parse_fault, parse_faultless, parse_named}
use Rattle.farm_cli.proofs.words.order_of.Goals as goal

pub returns-in-Some-clause-order : goal.returns-in-Some-clause-order
returns-in-Some-clause-order c =
    let is : app_of c.in_ok-farm_command.field-0 ≡ farm_app = search rules in
    let some : Some (form_of c.in-Some.order) ≡ order_in (subcommand_rows_of c.in-Ok.matches) = search rules in
    some ∙ ap order_in (parse_named (app_of c.in_ok-farm_command.field-0) (map string_bytes c.args.words.now) c.in-Ok.matches is c.in-Ok.ensures.matches)

pub returns-in-Some-clause-faultless : goal.returns-in-Some-clause-faultless
returns-in-Some-clause-faultless c =
    let is : app_of c.in_ok-farm_command.field-0 ≡ farm_app = search rules in
    parse_faultless (app_of c.in_ok-farm_command.field-0) (map string_bytes c.args.words.now) is c.in-Ok.ensures.kinds

pub returns-in-Ok-clause-fault : goal.returns-in-Ok-clause-fault
returns-in-Ok-clause-fault c =
    let is : app_of c.in_ok-farm_command.field-0 ≡ farm_app = search rules in
    let none : order_in (subcommand_rows_of c.in-Ok.matches) ≡ None = search rules in
    let text : string_bytes c.in_ok-from_str-in-None.field-0 ≡ c.open_choice.result.now = search rules in
    inr (
      parse_faultless (app_of c.in_ok-farm_command.field-0) (map string_bytes c.args.words.now) is c.in-Ok.ensures.kinds,
      sym (ap order_in (parse_named (app_of c.in_ok-farm_command.field-0) (map string_bytes c.args.words.now) c.in-Ok.matches is c.in-Ok.ensures.matches)) ∙ none,
      text ∙ c.open_choice.ensures ∙ ap open_text (parse_named (app_of c.in_ok-farm_command.field-0) (map string_bytes c.args.words.now) c.in-Ok.matches is c.in-Ok.ensures.matches),
    )

pub returns-in-Ok-clause-taken : goal.returns-in-Ok-clause-taken
returns-in-Ok-clause-taken c =
    let is : app_of c.in_ok-farm_command.field-0 ≡ farm_app = search rules in
    let none : order_in (subcommand_rows_of c.in-Ok.matches) ≡ None = search rules in
    λ taken. inr (sym (ap order_in (parse_named (app_of c.in_ok-farm_command.field-0) (map string_bytes c.args.words.now) c.in-Ok.matches is c.in-Ok.ensures.matches)) ∙ none)

pub returns-clause-fault : goal.returns-clause-fault
returns-clause-fault c =
    let is : app_of c.in_ok-farm_command.field-0 ≡ farm_app = search rules in
    parse_fault (app_of c.in_ok-farm_command.field-0) (map string_bytes c.args.words.now) c.in-Err.error c.fault_of.result is
    c.in-Err.ensures.kinds c.fault_of.ensures

pub returns-clause-taken : goal.returns-clause-taken
returns-clause-taken c =
    let is : app_of c.in_ok-farm_command.field-0 ≡ farm_app = search rules in
    λ taken. inl (memory_fault c.in-Err.error c.fault_of.result
    (subst (λ (a : App). takes a (map string_bytes c.args.words.now) ≡ true → kind_of c.in-Err.error ≡ OutOfMemory) is c.in-Err.ensures.passes taken)
    c.fault_of.ensures)
