use Rattle.std.proofs.Common.{◌∙◌, ap, rules, sym}
use Rattle.farm_sound.proofs.Names.{always_returns_same, bytes_eq, nat_list_cmp_total, Rows, TypeRow}
use Rattle.farm_types.specs.Names.{text_cmp}
use Rattle.farm_types.proofs.Searched.{same_names}
use Rattle.farm_sound.proofs.Lookups.{row_found, none_found}
use Rattle.farm_sound.proofs.ordered.OrderedRows.type_of.Goals as goal

pub returns-in-Ok : goal.returns-in-Ok
returns-in-Ok c =
    row_found (λ (r : TypeRow). r.name) text_cmp nat_list_cmp_total bytes_eq same_names c.args.name.now _ c.as_slice-types.result.now (c.as_slice-types.ensures.value ∙ ap (λ (r : Rows). r.types.items) c.self.view_is)
    (rw (sym c.self.view_is) c.self.invariant.ordered.types) c.in-Ok.at c.in-Ok.ensures.bound
    (c.in-Ok.ensures.position (λ r. text_cmp r.name c.args.name.now) (always_returns_same _ _ _ (λ a r f' called. search rules))) c.index-types-at.result c.index-types-at.is

pub returns-in-Err : goal.returns-in-Err
returns-in-Err c =
    none_found (λ (r : TypeRow). r.name) text_cmp nat_list_cmp_total bytes_eq same_names c.args.name.now _ c.as_slice-types.result.now (c.as_slice-types.ensures.value ∙ ap (λ (r : Rows). r.types.items) c.self.view_is)
    (rw (sym c.self.view_is) c.self.invariant.ordered.types) c.in-Err._gap c.in-Err.ensures.bound
    (c.in-Err.ensures.position (λ r. text_cmp r.name c.args.name.now) (always_returns_same _ _ _ (λ a r f' called. search rules)))
