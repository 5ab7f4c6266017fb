use Rattle.std.proofs.Common.{◌∙◌, ◌&&◌, [], map, get_or, Some, Ok, Err, sym, ap}
use Rattle.std.specs.Prelude.{option_map}
use Rattle.farm_core.proofs.Names.{bytes_eq, find}
use Rattle.farm_core.specs.Replies.{asked_row, entry_row, kept_reply}
use Rattle.farm_core.specs.declared.kept.packed.Entry.{Entry}
use Rattle.farm_core.proofs.Replies.Packing.{found_entry}
use Rattle.farm_core.proofs.kept.packed.Packed.find.Goals as goal

pub returns-in-Ok : goal.returns-in-Ok
returns-in-Ok c =
    let q = asked_row c.args.caller.now c.args.key.now in
    let found = found_entry c.deref.result.now c.deref-2.result.now q (rw (c.deref.ensures.value, c.deref-2.ensures.value) c.requires) (Ok c.in-Ok.at) c.in-Ok.ensures.within c.in-Ok.ensures.searched in
    let at = λ (e : Entry). kept_reply (entry_row [] e) in
    ap Some (c.reply.ensures ∙ ap at c.index.ensures ∙ ap (λ es. at (get_or es c.in-Ok.at c.index.result.now)) (sym c.deref-2.ensures.value))
    ∙ ap (option_map kept_reply) (sym (found c.index.result.now))
    ∙ (λ i. option_map kept_reply (find (λ r. bytes_eq r.caller c.args.caller.now && bytes_eq r.key c.args.key.now) (map (entry_row (c.deref.ensures.value i)) (c.deref-2.ensures.value i))))

pub returns-in-Err : goal.returns-in-Err
returns-in-Err c =
    let q = asked_row c.args.caller.now c.args.key.now in
    let found = found_entry c.deref.result.now c.deref-2.result.now q (rw (c.deref.ensures.value, c.deref-2.ensures.value) c.requires) (Err c.in-Err.field-0) c.in-Err.ensures.within c.in-Err.ensures.searched in
    ap (option_map kept_reply) (sym found)
    ∙ (λ i. option_map kept_reply (find (λ r. bytes_eq r.caller c.args.caller.now && bytes_eq r.key c.args.key.now) (map (entry_row (c.deref.ensures.value i)) (c.deref-2.ensures.value i))))
