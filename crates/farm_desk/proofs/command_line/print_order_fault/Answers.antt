use Rattle.std.proofs.Common.{refl}
use Rattle.farm_desk.proofs.LineLemmas.{keeps_same, text_tried}
use Rattle.farm_desk.proofs.command_line.print_order_fault.Goals as goal

pub returns-in-Words : goal.returns-in-Words
returns-in-Words g c =
    let printed = text_tried (g.E.Output.has_room c.args.errors.now) _ _ _ _ c.write_whole-in-Words.ensures.ok c.write_whole-in-Words.ensures.prefix c.write_whole-in-Words.ensures.sure in
    let shown = rw c.as_bytes-in-Words.ensures.value at printed in
    rw c.in-Words.is (refl, keeps_same _, shown.0, shown.1)
