use Rattle.std.proofs.Common.{◌∙◌, sym, ap, arith, rules, Ok, Err}
use Rattle.farm_pick.proofs.Names.{always_returns_same, BoardRow, bytes_eq, nat_list_cmp_total, same_names}
use Rattle.farm_types.specs.Names.{text_cmp}
use Rattle.farm_types.proofs.Searched.{found_at}
use Rattle.farm_pick.proofs.Listed.{named_found, named_near}
use Rattle.farm_pick.proofs.idle.place_of.Goals as goal

pub returns-then-is-clause-found : goal.returns-then-is-clause-found
returns-then-is-clause-found c =
    named_near c.args.boards.now c.args.name.now c.loop-at.at (omega arith) c.index-boards-at.result c.index-boards-at.is
    (ap (λ (b : BoardRow). bytes_eq b.name c.args.name.now) c.index-boards-at.is ∙ (sym c.is.ensures ∙ c.if-is.true))

pub returns-in-Ok-clause-found : goal.returns-in-Ok-clause-found
returns-in-Ok-clause-found c =
    named_found c.args.boards.now c.args.name.now c.in-Ok.at c.in-Ok.ensures.bound
    (found_at (λ (b : BoardRow). b.name) text_cmp nat_list_cmp_total bytes_eq same_names c.args.name.now c.args.boards.now c.requires (Ok c.in-Ok.at) c.in-Ok.ensures.bound
    (c.in-Ok.ensures.position (λ b. text_cmp b.name c.args.name.now) (always_returns_same _ _ _ (λ a b f' called. search rules))))

pub returns-in-Err-clause-none : goal.returns-in-Err-clause-none
returns-in-Err-clause-none c =
    found_at (λ (b : BoardRow). b.name) text_cmp nat_list_cmp_total bytes_eq same_names c.args.name.now c.args.boards.now c.requires (Err c.in-Err._gap) c.in-Err.ensures.bound
    (c.in-Err.ensures.position (λ b. text_cmp b.name c.args.name.now) (always_returns_same _ _ _ (λ a b f' called. search rules)))
