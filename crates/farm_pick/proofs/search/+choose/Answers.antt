use Rattle.std.proofs.Common.{rules, arith, ◌≡◌, ℕ, List, ◌∷◌, get_or, false, ◌∙◌, ap, sym}
use Rattle.farm_pick.specs.Choice.{has}
use Rattle.farm_pick.proofs.Choices.{found_from, none_from}
use Rattle.farm_pick.proofs.search.+choose.Goals as goal

pub returns-in-Some-choose-clause-found : goal.returns-in-Some-choose-clause-found
returns-in-Some-choose-clause-found t c =
    let whole : c.args.lists.now ≡ c.places-place-items.result.now ∷ c.in-Some.others.now = c.in-Some.ensures.cases.0 ∙ ap (λ (x : List ℕ). x ∷ c.in-Some.others.now) (sym c.places-place-items.ensures) in
    let free : has c.args.used (get_or c.places-place-items.result.now c.loop-place.place-index 0) ≡ false = search rules in
    found_from _ _ c.places-place-items.result.now c.in-Some.others.now c.loop-place.place-index c.with.result _ whole c.requires.ascend (omega arith) free c.loop-place.invariant c.with.ensures c.in-Some-choose.ensures.found

pub returns-clause-none : goal.returns-clause-none
returns-clause-none t c =
    let whole : c.args.lists.now ≡ c.places-place-items.result.now ∷ c.in-Some.others.now = c.in-Some.ensures.cases.0 ∙ ap (λ (x : List ℕ). x ∷ c.in-Some.others.now) (sym c.places-place-items.ensures) in
    none_from _ _ c.places-place-items.result.now c.in-Some.others.now c.loop-place.place-index whole (omega arith) c.loop-place.invariant
