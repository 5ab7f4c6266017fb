-- The four parts of a pass make the whole.
use native.Mathlib.Omega.{arith}
use Rattle.std.proofs.Common.{[], ◌≡◌, ◌==◌, ◌∷◌, ℕ, List, map, not, refl, sym, ap, ◌∙◌}
use Rattle.farm_core.proofs.Names.{BoardRow, fold, list_any, queued_filter, queued_of, ResRow}
use Rattle.std.specs.List.{filter}
use Rattle.farm_types.specs.Names.{check_one, checks, Claimed, expire, Farm, giving_back, is_dead, is_due}
use Rattle.farm_types.specs.Names.{IsSound, queue, serve_all}
use Rattle.farm_pick.proofs.Commands.{backs_follow}
use Rattle.farm_pick.proofs.Checking.{checks_follow}
use Rattle.farm_pick.proofs.Ending.{ends_follow}
use Rattle.farm_core.specs.Following.{without_all}
use Rattle.farm_core.proofs.Assigned.{without_each}
use Rattle.farm_sound.proofs.Checks.{IsSound-checks, check_clock}
use Rattle.farm_sound.proofs.Jobs.{IsSound-back}
use Rattle.farm_sound.proofs.Reservations.{IsSound-expire}

-- the farm before the claims are served
abbrev pub prepared : Farm → Farm
prepared F = checks (expire (giving_back F) F.clock) F.clock

pub prepared_clock : (F : Farm) → (prepared F).clock ≡ F.clock
prepared_clock F = check_clock (filter (is_due (expire (giving_back F) F.clock) F.clock) (expire (giving_back F) F.clock).boards) (expire (giving_back F) F.clock)

expired_sound : (F : Farm) → IsSound F → IsSound (expire (giving_back F) F.clock)
expired_sound F sound = IsSound-expire (giving_back F) F.clock (IsSound-back F sound)

pub prepared_sound : (F : Farm) → IsSound F → IsSound (prepared F)
prepared_sound F sound = IsSound-checks (expire (giving_back F) F.clock) F.clock (expired_sound F sound)

check_collector : (bs : List BoardRow) (F : Farm) → (fold check_one F bs).collector ≡ F.collector
check_collector [] F = refl
check_collector (b ∷ bs) F = grind (arith, check_collector bs (check_one F b))

-- nobody collects then
pub prepared_nobody : (F : Farm) → (prepared F).collector ≡ 0
prepared_nobody F = check_collector (filter (is_due (expire (giving_back F) F.clock) F.clock) (expire (giving_back F) F.clock).boards) (expire (giving_back F) F.clock)

module _ (F B G H : Farm) (given : B ≡ giving_back F) (ended : G ≡ expire B B.clock) (checked : H ≡ checks G G.clock) where
  pub is_expired : G ≡ expire (giving_back F) F.clock
  is_expired = ended ∙ (λ i. expire (given i) (given i).clock)

  pub is_prepared : H ≡ prepared F
  is_prepared = checked ∙ (λ i. checks (is_expired i) (is_expired i).clock)

  pub served_is : (group : ℕ) → serve_all H group H.clock ≡ serve_all (prepared F) group F.clock
  served_is group = (λ i. serve_all (is_prepared i) group (is_prepared i).clock) ∙ ap (serve_all (prepared F) group) (prepared_clock F)

-- ---- who waits before the claims are served

pub prepared_queue : (F : Farm) → IsSound F → without_all (filter (is_dead F.clock) F.reservations) (map queued_of (queue F)) ≡ map queued_of (queue (prepared F))
prepared_queue F sound =
    let over = λ (n : ℕ). not (list_any (λ (r : ResRow). r.number == n) (filter (is_dead F.clock) F.reservations)) in
    without_each (filter (is_dead F.clock) F.reservations) (map queued_of (queue F))
    ∙ sym (queued_filter over (queue F))
    ∙ ap (λ cs. map queued_of (filter (λ (c : Claimed). over c.number) cs)) (sym (backs_follow F))
    ∙ ap (map queued_of) (sym (ends_follow (giving_back F) F.clock (IsSound-back F sound)) ∙ sym (checks_follow (expire (giving_back F) F.clock) (expired_sound F sound)))
