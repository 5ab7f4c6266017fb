use Rattle.std.proofs.Common.{◌≡◌, subst}
use Rattle.farm_types.specs.Names.{res_cmp}
use Rattle.farm_core.proofs.Names.{Leads, ResRow, Tabled}
use Rattle.farm_core.proofs.Leasing.{noted_put}
use Rattle.farm_core.proofs.res_table.ResTable.put.Goals as goal

pub invariant_of-self-2 : goal.invariant_of-self-2
invariant_of-self-2 c =
    noted_put c.self.inside.leases c.note.new.leases c.note.ensures.grows c.self.inside.table.rows c.put.new.self.rows c.args.row c.self.invariant c.in_ok-note.ensures.noted c.in_ok-put.ensures.rows

pub returns-clause-leads : goal.returns-clause-leads
returns-clause-leads c = subst (λ (t : Tabled ResRow). Leads res_cmp t c.put.new.self) c.self.view_is c.in_ok-put.ensures.leads
