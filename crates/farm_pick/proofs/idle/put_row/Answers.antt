use Rattle.std.proofs.Common.{◌∙◌, refl, sym}
use Rattle.farm_pick.proofs.idle.put_row.Goals as goal

pub returns-in-Ok-clause-rows : goal.returns-in-Ok-clause-rows
returns-in-Ok-clause-rows c =
    sym (c.in-Ok.ensures.puts c.args.row refl)

pub returns-in_ok-insert-in-Err-clause-rows : goal.returns-in_ok-insert-in-Err-clause-rows
returns-in_ok-insert-in-Err-clause-rows c =
    c.in_ok-insert-in-Err.ensures.items ∙ sym (c.in-Err.ensures.puts c.args.row refl)
