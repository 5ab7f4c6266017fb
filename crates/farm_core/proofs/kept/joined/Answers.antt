use Rattle.std.proofs.Common.{◌≡◌, ◌≤◌, length, ap, arith}
use Rattle.farm_types.specs.Names.{longest_key, longest_name}
use Rattle.farm_core.proofs.Replies.{word_fits}
use Rattle.farm_core.proofs.kept.joined.Goals as goal

pub push_str-requires : goal.push_str-requires
push_str-requires c =
    let none : length c.new-text.result.bytes ≡ 0 = ap length c.new-text.ensures in
    let same : length c.as_str.result.now ≡ length c.args.caller.now = ap length c.as_str.ensures.text in
    let fits : length c.args.caller.now ≤ longest_name = word_fits longest_name c.args.caller.now c.as_str.ensures.word in
    (omega arith, omega (arith, none, same, fits))

pub push_str-requires-2 : goal.push_str-requires-2
push_str-requires-2 c =
    let none : length c.new-text.result.bytes ≡ 0 = ap length c.new-text.ensures in
    let same : length c.as_str.result.now ≡ length c.args.caller.now = ap length c.as_str.ensures.text in
    let fits : length c.args.caller.now ≤ longest_name = word_fits longest_name c.args.caller.now c.as_str.ensures.word in
    (omega arith, omega (arith, none, same, fits, c.push_str.ensures.len))

pub push_str-requires-3 : goal.push_str-requires-3
push_str-requires-3 c =
    let none : length c.new-text.result.bytes ≡ 0 = ap length c.new-text.ensures in
    let same : length c.as_str.result.now ≡ length c.args.caller.now = ap length c.as_str.ensures.text in
    let fits : length c.args.caller.now ≤ longest_name = word_fits longest_name c.args.caller.now c.as_str.ensures.word in
    let same_key : length c.as_str-2.result.now ≡ length c.args.key.now = ap length c.as_str-2.ensures.text in
    let key_fits : length c.args.key.now ≤ longest_key = word_fits longest_key c.args.key.now c.as_str-2.ensures.word in
    (omega arith, omega (arith, none, same, fits, c.push_str.ensures.len, c.push_str-2.ensures.len, same_key, key_fits))
