use Rattle.std.proofs.Common.{inl}
use Rattle.farm_desk.proofs.LineLemmas.{unread_lab}
use Rattle.farm_desk.proofs.orders.import_file.Goals as goal

pub returns-in-Ok : goal.returns-in-Ok
returns-in-Ok g c = inl (record {
  text = c.in-Ok.text.items;
  text_of = c.in-Ok.ensures;
  imported = c.import.result;
  imports = rw c.as_slice.ensures.value at c.import.ensures.import;
  prints = c.print_import.ensures;
})

pub returns-in-Err : goal.returns-in-Err
returns-in-Err g c = unread_lab _ _ _ _ _ c.lab_fault.result c.lab_fault.ensures.fault
