use Rattle.std.proofs.Common.{◌∙◌, ap}
use Rattle.farm_pick.proofs.Names.{is_eq, nat_cmp, nat_cmp_total, remove_entry}
use Rattle.farm_pick.proofs.Entries.{remove_insert}
use Rattle.farm_pick.proofs.index.Index.put_at.Goals as goal

pub returns-in-Err-clause-places_stay : goal.returns-in-Err-clause-places_stay
returns-in-Err-clause-places_stay c =
    c.remove-place.ensures.entries
    ∙ ap (remove_entry (λ m. is_eq (nat_cmp c.args.spot.number m))) c.in_ok-_none.ensures.entries
    ∙ remove_insert nat_cmp nat_cmp_total c.args.spot.number _ c.args.self.now.places.entries c.requires.place
