use Rattle.std.proofs.Common.{◌∙◌, ap, sym}
use Rattle.farm_types.specs.Names.{first_code, moment, own_refusal, reasons}
use Rattle.farm_core.specs.Plain.{plain_farm}
use Rattle.farm_core.proofs.tables.Tables.own_refusal.Goals as goal

pub returns-in-Submit : goal.returns-in-Submit
unfolding own_refusal
returns-in-Submit c =
    c.refuse_submit.ensures
    ∙ ap (λ cmd. first_code (reasons (plain_farm c.args.self.now) (moment (plain_farm c.args.self.now) c.args.call.now) c.args.call.now.caller cmd)) (sym c.in-Submit.is)
