use Rattle.std.proofs.Common.{◌≡◌, ◌∙◌, ◌∷◌, Bor, length, map, take, ap, arith}
use Rattle.std.proofs.lemmas.List.{take_all}
use Rattle.farm_types.specs.declared.rows.Want.{Want}
use Rattle.farm_core.proofs.pass.next_claim.remember.Goals as goal

pub returns : goal.returns
returns c =
    let wants = c.args.wants.now in
    let all : c.loop-want.want-index ≡ length wants = omega arith in (
      c.loop-want.copy,
      c.loop-want.invariant ∙ ap (λ n. map (λ (w : Bor Want). w.now) (take n wants)) all ∙ ap (map (λ (w : Bor Want). w.now)) (take_all (length wants) wants (omega arith)),
      c.in_ok-push_front.ensures.items ∙ ap (λ vs. c.loop-want.copy ∷ vs) c.truncate.ensures.items,
    )
