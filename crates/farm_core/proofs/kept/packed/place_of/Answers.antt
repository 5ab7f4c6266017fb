use Rattle.std.proofs.Common.{rules}
use Rattle.std.proofs.lemmas.Fn.{always_returns_same}
use Rattle.farm_types.specs.Names.{kept_cmp}
use Rattle.farm_core.specs.Replies.{asked_row, entry_row}
use Rattle.farm_core.proofs.kept.packed.place_of.Goals as goal

pub returns-clause-searched : goal.returns-clause-searched
returns-clause-searched c =
    c.binary_search_by.ensures.position (λ e. kept_cmp (entry_row c.args.texts.now e) (asked_row c.args.caller.now c.args.key.now)) (always_returns_same _ _ _ (λ a r f' called. search rules))
