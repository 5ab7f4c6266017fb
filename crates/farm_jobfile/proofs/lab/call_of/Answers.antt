use Rattle.std.proofs.Common.{◌≡◌, ◌∙◌, ◌++◌, ap, arith, rules}
use Rattle.farm_types.specs.Names.{is_word, longest_key}
use Rattle.farm_jobfile.proofs.CallLemmas.{admin_is_word, key_is_word}
use Rattle.farm_jobfile.proofs.lab.call_of.Goals as goal

pub of-key-requires : goal.of-key-requires
of-key-requires c =
    let text : c.as_bytes.result.now ≡ c.args.prefix.now ++ c.args.name.now = search (rules, c.as_bytes.ensures, c.in_ok-text.ensures) in
    (omega arith, ap (is_word longest_key) text ∙ key_is_word c.args.prefix.now c.args.name.now c.requires.short c.requires.bytes c.requires.word)

pub of-requires : goal.of-requires
of-requires c = (omega arith, admin_is_word)
