use Rattle.std.proofs.Common.{arith, ◌<◌, ◌∙◌, length, sym}
use Rattle.farm_pick.specs.Choice.{passes}
use Rattle.farm_pick.proofs.Choices.{shortlist_with, shortlist_past, shortlist_full, shortlist_whole}
use Rattle.farm_pick.proofs.Places.{candidate_is, candidate_within}
use Rattle.farm_pick.proofs.search.shortlist.Goals as goal
use Rattle.farm_pick.proofs.search.shortlist.Goals.{then-is_candidate, else-is_candidate}

pub loop-place-preserved : goal.loop-place-preserved
loop-place-preserved c =
    elim c.if-is_candidate.branch [
      | then-is_candidate w ↦
          rw (w.found-is, w.with-found.ensures) (shortlist_with _ _ _ _ c.loop-place.invariant _ (candidate_is c.args.boards.now (passes c.args.types.now c.args.free) c.args.want.now c.loop-place.place c.index-boards-place.result (omega arith) c.index-boards-place.is ∙ sym c.is_candidate.ensures ∙ w.if-is_candidate.true) (omega arith) (omega arith))
      | else-is_candidate w ↦
          rw w.found-is (shortlist_past _ _ _ _ c.loop-place.invariant _ (candidate_is c.args.boards.now (passes c.args.types.now c.args.free) c.args.want.now c.loop-place.place c.index-boards-place.result (omega arith) c.index-boards-place.is ∙ sym c.is_candidate.ensures ∙ w.if-is_candidate.false) (omega arith))
    ]

pub returns-then-len-limit : goal.returns-then-len-limit
returns-then-len-limit c = shortlist_full _ _ _ _ c.loop-place.invariant (omega arith)

pub returns-after-loop-place : goal.returns-after-loop-place
returns-after-loop-place c =
    shortlist_whole _ _ _ _ c.loop-place.invariant (λ x e.
    let within : x < length c.args.boards.now = candidate_within c.args.boards.now (passes c.args.types.now c.args.free) c.args.want.now x e in
    omega arith)
