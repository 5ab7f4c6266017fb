use Rattle.std.proofs.Common.{◌∙◌, ◌+◌, ◌==◌, ap, sym, refl}
use Rattle.farm_types.specs.Names.{change_where, done_with, Farm}
use Rattle.farm_types.specs.declared.rows.ResRow.{ResRow}
use Rattle.farm_core.specs.Edits.{res_changed}
use Rattle.farm_core.specs.Plain.{plain_farm}
use Rattle.farm_core.proofs.EditLemmas.{reservations_alone}
use Rattle.farm_core.proofs.Steps.{lead_on_none, reservations_lead}
use Rattle.farm_core.proofs.tables.Tables.refresh.Goals as goal

pub returns : goal.returns
returns c =
    let F : Farm = plain_farm c.args.self.now in
    record {
      done = ap (done_with c.args.number) (sym (reservations_alone F _ (λ (r : ResRow). r.number == c.args.number) (λ (r : ResRow). record r { deadline = F.clock + 60 }) ((λ i. record F { reservations = c.in_ok-edit.ensures.rows i })
          ∙ (λ i. record F { reservations = change_where (λ (r : ResRow). r.number == (c.new-edit.ensures i).number) (res_changed (c.new-edit.ensures i)) F.reservations }))));
      queues = refl;
      logs = reservations_lead _ _ _ (lead_on_none c.args.self.now) c.in_ok-edit.ensures.leads;
    }
