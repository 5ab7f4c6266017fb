use Rattle.std.proofs.Common.{◌≡◌, ◌==◌, get_or, ap, sym, ◌∙◌}
use Rattle.farm_core.proofs.Names.{BoardRow, bytes_eq, Holder, ResRow, State}
use Rattle.farm_types.specs.Names.{allocated_reservation, change_where, Farm, held_board}
use Rattle.farm_core.specs.Came.{seen, seen_at}
use Rattle.farm_core.specs.Plain.{plain_farm}
use Rattle.farm_core.proofs.Places.{assigned_first, first_low}
use Rattle.farm_core.proofs.Steps.{lead_on_join, lead_on_none, reservations_lead}
use Rattle.farm_core.proofs.tables.Tables.assign_reservation.Goals as goal

pub reserve_board-requires-clause-within : goal.reserve_board-requires-clause-within
reserve_board-requires-clause-within c = first_low _ _ _ c.requires.within c.in-Some.ensures.value

pub returns : goal.returns
returns c =
    let T = c.args.self.now in
    let F : Farm = plain_farm T in
    let b = c.index-rows-at.result in
    let is : b ≡ get_or F.boards c.in-Some.at.now b = c.index-rows-at.is ∙ ap (λ bs. get_or bs c.in-Some.at.now b) c.rows.ensures.rows in
    let reserved = c.in_ok-reserve_board.ensures b is in
    let boards = change_where (λ (c : BoardRow). bytes_eq c.name b.name) (held_board (Holder.Res c.args.number) State.Reserved) F.boards in
    record {
      now = reserved.now
          ∙ (λ i. seen_at (record F { reservations = c.in_ok-edit.ensures.rows i; boards = boards }) (seen T))
          ∙ (λ i. seen_at (record F { reservations = change_where (λ (r : ResRow). r.number == c.args.number) (allocated_reservation (sym c.index-rows-at.is i).name F.clock) F.reservations; boards = boards }) (seen T))
          ∙ ap (λ G. seen_at G (seen T)) (sym (assigned_first F c.args.number c.args.places.now c.in-Some.at.now b (first_low _ _ _ c.requires.within c.in-Some.ensures.value) is c.in-Some.ensures.value));
      logs = lead_on_join _ _ _ (reservations_lead _ _ _ (lead_on_none T) c.in_ok-edit.ensures.leads) reserved.logs;
    }
