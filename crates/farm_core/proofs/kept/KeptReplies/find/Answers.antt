use Rattle.std.proofs.Common.{◌∙◌, ◌&&◌, sym, ap}
use Rattle.std.specs.Prelude.{option_map}
use Rattle.farm_core.proofs.Names.{bytes_eq, find, is_eq, string_bytes}
use Rattle.std.specs.Map.{lookup}
use Rattle.std.specs.Option.{option_copied}
use Rattle.farm_types.specs.Names.{text_cmp}
use Rattle.farm_core.specs.Replies.{asked_row, kept_reply}
use Rattle.farm_core.proofs.Replies.{finds_above, finds_below}
use Rattle.farm_core.proofs.Replies.Joined.{rows_find}
use Rattle.farm_core.proofs.kept.KeptReplies.find.Goals as goal

pub returns-in-Some : goal.returns-in-Some
returns-in-Some c =
    finds_above c.self.inside.packed c.self.inside.others.entries (asked_row c.args.caller.now c.args.key.now) c.in-Some.reply.now c.self.invariant.others
    (c.in-Some.ensures.value
    ∙ ap (λ q. lookup (λ l. is_eq (text_cmp q (string_bytes l))) c.self.inside.others.entries) (c.as_str.ensures.value ∙ c.joined.ensures.joined)
    ∙ rows_find c.args.caller.now c.args.key.now c.joined.ensures.name c.self.inside.others.entries c.self.invariant.joined)
    ∙ (λ i. option_map kept_reply (find (λ r. bytes_eq r.caller c.args.caller.now && bytes_eq r.key c.args.key.now) (c.self.view_is i).rows))

pub returns-in-None : goal.returns-in-None
returns-in-None c =
    c.find.ensures
    ∙ finds_below c.self.inside.packed c.self.inside.others.entries (asked_row c.args.caller.now c.args.key.now) c.self.invariant.others
    (sym (ap option_copied c.in-None.is) ∙ c.get.ensures.value
    ∙ ap (λ q. lookup (λ l. is_eq (text_cmp q (string_bytes l))) c.self.inside.others.entries) (c.as_str.ensures.value ∙ c.joined.ensures.joined)
    ∙ rows_find c.args.caller.now c.args.key.now c.joined.ensures.name c.self.inside.others.entries c.self.invariant.joined)
    ∙ (λ i. option_map kept_reply (find (λ r. bytes_eq r.caller c.args.caller.now && bytes_eq r.key c.args.key.now) (c.self.view_is i).rows))
