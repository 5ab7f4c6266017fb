-- What a claim asks for.
use Rattle.std.proofs.Common.{◌≡◌, inl, inr, refl, sym, ap, subst, arith}
use Rattle.farm_types.specs.Names.{Claimed, Farm, IsSmall, IsSound}
use Rattle.farm_sound.proofs.Accepted.{low_job, low_res}
use Rattle.farm_sound.proofs.Claims.{IsClaim}
use Rattle.farm_core.specs.Serving.{MatchesRows}

-- a claim asks for what its rows want
pub asks_claim : (F : Farm) (c : Claimed) → IsClaim F c → MatchesRows c.reservation F c
asks_claim F c (inl (r, is)) =
    subst (λ (d : Claimed). MatchesRows d.reservation F d) (sym is.2) (rw is.0 refl)
asks_claim F c (inr (j, is)) =
    subst (λ (d : Claimed). MatchesRows d.reservation F d) (sym is.2) refl

-- and its number is small
pub small_claim : (F : Farm) (c : Claimed) → IsSound F → IsClaim F c → IsSmall c.number
small_claim F c sound (inl (r, is)) =
    let low = low_res F r.number r is.0 sound in
    let same : c.number ≡ r.number = ap (λ (d : Claimed). d.number) is.2 in
    omega arith
small_claim F c sound (inr (j, is)) =
    let low = (low_job F j.number j is.0 sound).1 in
    let same : c.number ≡ j.group = ap (λ (d : Claimed). d.number) is.2 in
    omega arith
