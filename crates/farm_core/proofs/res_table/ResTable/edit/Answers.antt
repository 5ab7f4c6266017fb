use Rattle.std.proofs.Common.{◌≡◌, ◌∙◌, ◌==◌, true, get_or, set, refl, sym, ap, subst}
use Rattle.std.specs.Cmp.{nat_cmp_total}
use Rattle.farm_core.proofs.Names.{Leads, nat_cmp, ResRow, Tabled}
use Rattle.farm_types.specs.Names.{change_where, res_cmp}
use Rattle.farm_types.proofs.Searched.{same_numbers}
use Rattle.farm_table.proofs.Steps.{found_changes, nobody_changes}
use Rattle.farm_core.specs.Edits.{res_changed}
use Rattle.farm_core.specs.Leases.{is_noted, IsNoted, may_end_in}
use Rattle.farm_core.proofs.EditLemmas.{keeps_small}
use Rattle.farm_core.proofs.Leasing.{noted_on, noted_set}
use Rattle.farm_core.proofs.res_table.ResTable.edit.Goals as goal

-- there is no such reservation
pub returns-in_default-clause-rows : goal.returns-in_default-clause-rows
returns-in_default-clause-rows c =
    let edit = c.args.edit in
    subst (λ (t : Tabled ResRow). t.rows ≡ change_where (λ (r : ResRow). r.number == edit.number) (res_changed edit) t.rows) c.self.view_is
    (nobody_changes (λ (r : ResRow). r.number == edit.number) (res_changed edit) c.self.inside.table.rows c.in_default.ensures.place)

pub change_at-requires-clause-keeps : goal.change_at-requires-clause-keeps
change_at-requires-clause-keeps c = record { key = λ r. refl; fits = keeps_small c.args.edit c.requires }

pub invariant_of-self : goal.invariant_of-self
invariant_of-self c = noted_on c.self.inside.leases c.note.new.leases c.note.ensures.grows c.self.inside.table.rows c.self.inside.table.rows c.self.invariant refl

pub invariant_of-self-in_err-change_at : goal.invariant_of-self-in_err-change_at
invariant_of-self-in_err-change_at c =
    noted_on c.self.inside.leases c.note.new.leases c.note.ensures.grows c.self.inside.table.rows c.change_at.new.self.rows c.self.invariant
    (ap (λ (t : Tabled ResRow). t.rows) c.in_err-change_at.ensures.stays)

-- the lease was noted that the changed row has
pub invariant_of-self-2 : goal.invariant_of-self-2
invariant_of-self-2 c =
    let at = c.in-Ok.at in
    let rows = c.self.inside.table.rows in
    let row = c.index-rows-at.result in
    let changed = res_changed c.args.edit in
    let own : get_or rows at row ≡ row = sym (c.index-rows-at.is ∙ ap (λ rs. get_or rs at row) c.rows.ensures.rows) in
    let here : IsNoted c.note.new.leases (changed row) = λ may.
    subst (λ d. is_noted c.note.new.leases (record { deadline = d; number = row.number }) ≡ true) c.unwrap_or-deadline.ensures (c.in_ok-note.ensures.noted (ap may_end_in c.unwrap_or-state.ensures ∙ may)) in
    noted_set c.self.inside.leases c.note.new.leases c.note.ensures.grows rows c.change_at.new.self.rows at (changed row) c.self.invariant here
    (c.in_ok-change_at.ensures.rows row ∙ ap (λ r. set rows at (changed r)) own)

pub returns-clause-rows : goal.returns-clause-rows
returns-clause-rows c =
    let edit = c.args.edit in
    let rows = c.self.inside.table.rows in
    found_changes (λ (r : ResRow). r.number) nat_cmp nat_cmp_total (λ a b. a == b) same_numbers edit.number (res_changed edit) rows c.change_at.new.self.rows c.in-Ok.at
    c.in-Ok.ensures.sorted c.in-Ok.ensures.place.0 c.in-Ok.ensures.place.1 c.in_ok-change_at.ensures.rows
    ∙ ap (λ (t : Tabled ResRow). change_where (λ (r : ResRow). r.number == edit.number) (res_changed edit) t.rows) c.self.view_is

pub returns-clause-leads : goal.returns-clause-leads
returns-clause-leads c = subst (λ (t : Tabled ResRow). Leads res_cmp t c.change_at.new.self) c.self.view_is c.in_ok-change_at.ensures.leads
