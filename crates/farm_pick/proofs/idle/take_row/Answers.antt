use Rattle.std.proofs.Common.{◌≡◌, ◌∙◌, rules}
use Rattle.std.specs.List.{remove}
use Rattle.farm_pick.proofs.Calls.{taken_at, none_at}
use Rattle.farm_pick.proofs.idle.take_row.Goals as goal

pub returns-in-Ok : goal.returns-in-Ok
returns-in-Ok c =
    let removed : c.remove-row.new.self.items ≡ remove c.args.rows.now.items c.in-Ok.at = search rules in
    removed ∙ taken_at c.args.name.now c.args.rows.now.items c.in-Ok.at c.requires c.in-Ok.ensures.within c.in-Ok.ensures.row

pub returns-in_default : goal.returns-in_default
returns-in_default c = none_at c.args.name.now c.args.rows.now.items c.in_default.ensures.row
