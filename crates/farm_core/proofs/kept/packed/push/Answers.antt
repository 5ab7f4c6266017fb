use Rattle.std.proofs.Common.{◌≡◌, ◌∙◌, ◌≤◌, ◌++◌, length, ap, refl, arith}
use Rattle.farm_types.specs.Names.{longest_key, longest_name}
use Rattle.farm_types.specs.declared.rows.KeptRow.{KeptRow}
use Rattle.farm_core.specs.declared.kept.packed.Entry.{Entry}
use Rattle.farm_core.proofs.Replies.{word_fits}
use Rattle.farm_core.proofs.Replies.Packing.{row_at, rows_push, lie_push}
use Rattle.farm_core.proofs.kept.packed.push.Goals as goal

pub overflow_cast-caller : goal.overflow_cast-caller
overflow_cast-caller c =
    let same : length c.as_str-caller.result.now ≡ length c.args.row.now.caller = ap length c.as_str-caller.ensures.text in
    let fits : length c.args.row.now.caller ≤ longest_name = word_fits longest_name c.args.row.now.caller c.as_str-caller.ensures.word in
    omega (arith, same, fits)

pub overflow_cast-key : goal.overflow_cast-key
overflow_cast-key c =
    let same : length c.as_str-key.result.now ≡ length c.args.row.now.key = ap length c.as_str-key.ensures.text in
    let fits : length c.args.row.now.key ≤ longest_key = word_fits longest_key c.args.row.now.key c.as_str-key.ensures.word in
    omega (arith, same, fits)

pub returns-clause-rows : goal.returns-clause-rows
returns-clause-rows c =
    let row : KeptRow = c.args.row.now in
    let e : Entry = record { start = c.in-Ok.start; first = row.reply.0; second = row.reply.1; third = row.reply.2; caller = length c.as_str-caller.result.now; key = length c.as_str-key.result.now; kind = row.kind } in
    let start : e.start ≡ length c.args.texts.now.items = omega (arith, c.in-Ok.ensures.1, c.len.ensures, c.args.texts.now.ok.0) in
    rows_push c.args.texts.now.items c.extend_from_slice.new.self.items c.extend_from_slice-2.new.self.items c.as_str-caller.result.now c.as_str-key.result.now c.args.entries.now.items c.push.new.self.items row e
    (c.in_ok-extend_from_slice.ensures.items ∙ ap (λ s. c.args.texts.now.items ++ s) c.as_bytes.ensures.value)
    (c.in_ok-extend_from_slice-2.ensures.items ∙ ap (λ s. c.extend_from_slice.new.self.items ++ s) c.as_bytes-2.ensures.value)
    c.in_ok-push.ensures.items c.requires.lie
    (row_at c.args.texts.now.items c.as_str-caller.result.now c.as_str-key.result.now row e c.as_str-caller.ensures.text c.as_str-key.ensures.text start refl refl refl refl refl refl)

pub returns-clause-lie : goal.returns-clause-lie
returns-clause-lie c =
    let row : KeptRow = c.args.row.now in
    let e : Entry = record { start = c.in-Ok.start; first = row.reply.0; second = row.reply.1; third = row.reply.2; caller = length c.as_str-caller.result.now; key = length c.as_str-key.result.now; kind = row.kind } in
    let start : e.start ≡ length c.args.texts.now.items = omega (arith, c.in-Ok.ensures.1, c.len.ensures, c.args.texts.now.ok.0) in
    lie_push c.args.texts.now.items c.extend_from_slice.new.self.items c.extend_from_slice-2.new.self.items c.as_str-caller.result.now c.as_str-key.result.now c.args.entries.now.items c.push.new.self.items e
    (c.in_ok-extend_from_slice.ensures.items ∙ ap (λ s. c.args.texts.now.items ++ s) c.as_bytes.ensures.value)
    (c.in_ok-extend_from_slice-2.ensures.items ∙ ap (λ s. c.extend_from_slice.new.self.items ++ s) c.as_bytes-2.ensures.value)
    c.in_ok-push.ensures.items start refl refl c.requires.lie
