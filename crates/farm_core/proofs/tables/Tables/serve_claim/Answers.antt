use Rattle.std.proofs.Common.{◌==◌, filter, not, ap, sym, ◌∙◌}
use Rattle.farm_core.proofs.Names.{fold, JobState, Queued, zip}
use Rattle.farm_types.specs.Names.{Farm, members}
use Rattle.farm_core.specs.Came.{Seen, seen}
use Rattle.farm_core.specs.Following.{without_boards}
use Rattle.farm_core.specs.Serving.{assign_first, assign_named, names_at}
use Rattle.farm_core.proofs.OneTried.{given_boards}
use Rattle.farm_core.proofs.Serving.{assigned, numbers_of, numbers_small}
use Rattle.farm_core.proofs.Steps.{lead_on_join}
use Rattle.farm_core.proofs.tables.Tables.serve_claim.Goals as goal

pub take_assigned-requires : goal.take_assigned-requires
take_assigned-requires c = rw c.places-places.ensures c.in-Some.ensures.within

pub assign_jobs-requires-clause-small : goal.assign_jobs-requires-clause-small
assign_jobs-requires-clause-small c =
    rw c.deref.ensures.0 (numbers_small c.member_rows.result.now c.args.number _ c.numbers_in-numbers.ensures c.member_rows.ensures.fit)

pub returns-in_ok-assign_jobs-in-Group-clause-tries : goal.returns-in_ok-assign_jobs-in-Group-clause-tries
returns-in_ok-assign_jobs-in-Group-clause-tries c = λ d of_kind same asks.
    let D : Seen = seen c.args.self.now in
    let lists = D.queues in
    let taken = c.take_assigned.ensures.now in
    let given = c.in_ok-assign_jobs-in-Group.ensures.now in
    let farm = ap (λ (s : Seen). s.farm) taken in
    let names = names_at D.farm.boards c.in-Some.picked in
    let numbers = c.numbers_in-numbers.ensures ∙ ap numbers_of c.member_rows.ensures.members ∙ ap (λ (F : Farm). numbers_of (members F c.args.number)) farm in
    given_boards D c.args.kind c.args.number d of_kind same asks c.in-Some.picked c.in-Some.ensures.least (seen c.assign_jobs.new.self)
    (ap (λ (s : Seen). s.farm) given
    ∙ (λ i. fold (assign_named JobState.Scheduled) (farm i) (zip (c.deref.ensures.0 i) (names_at (farm i).boards (c.places-places.ensures i))))
    ∙ ap (λ ns. fold (assign_named JobState.Scheduled) D.farm (zip ns names)) numbers
    ∙ ap (λ kind. assigned D.farm kind c.args.number names) (sym c.in-Group.is))
    (ap (λ (s : Seen). s.queues) given
    ∙ ap (λ (s : Seen). s.queues) taken
    ∙ (λ i. record { claims = filter (λ (x : Queued). not (x.claim.number == c.args.number)) lists.claims; boards = without_boards (names_at D.farm.boards (c.places-places.ensures i)) lists.boards }))

pub returns-in_ok-assign_jobs-in-Group-clause-logs : goal.returns-in_ok-assign_jobs-in-Group-clause-logs
returns-in_ok-assign_jobs-in-Group-clause-logs c = lead_on_join _ _ _ c.take_assigned.ensures.logs c.in_ok-assign_jobs-in-Group.ensures.logs

pub returns-in_ok-assign_reservation-in-Reservation-clause-tries : goal.returns-in_ok-assign_reservation-in-Reservation-clause-tries
returns-in_ok-assign_reservation-in-Reservation-clause-tries c = λ d of_kind same asks.
    let D : Seen = seen c.args.self.now in
    let lists = D.queues in
    let taken = c.take_assigned.ensures.now in
    let given = c.in_ok-assign_reservation-in-Reservation.ensures.now in
    let farm = ap (λ (s : Seen). s.farm) taken in
    let names = names_at D.farm.boards c.in-Some.picked in
    given_boards D c.args.kind c.args.number d of_kind same asks c.in-Some.picked c.in-Some.ensures.least (seen c.assign_reservation.new.self)
    (ap (λ (s : Seen). s.farm) given
    ∙ (λ i. assign_first (farm i) c.args.number (names_at (farm i).boards (c.places-places.ensures i)))
    ∙ ap (λ kind. assigned D.farm kind c.args.number names) (sym c.in-Reservation.is))
    (ap (λ (s : Seen). s.queues) given
    ∙ ap (λ (s : Seen). s.queues) taken
    ∙ (λ i. record { claims = filter (λ (x : Queued). not (x.claim.number == c.args.number)) lists.claims; boards = without_boards (names_at D.farm.boards (c.places-places.ensures i)) lists.boards }))

pub returns-in_ok-assign_reservation-in-Reservation-clause-logs : goal.returns-in_ok-assign_reservation-in-Reservation-clause-logs
returns-in_ok-assign_reservation-in-Reservation-clause-logs c = lead_on_join _ _ _ c.take_assigned.ensures.logs c.in_ok-assign_reservation-in-Reservation.ensures.logs
