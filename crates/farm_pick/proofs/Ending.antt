-- The claims of the reservations that end leave the queue.
use Rattle.std.proofs.Common.{◌==◌, ◌≡◌, Bool, Some, ap, false, not, refl, ℕ}
use Rattle.farm_pick.proofs.Names.{AllByRecursion, AllByRecursion-both, AllByRecursion-weaker, filter_all, itself, list_any, own_job, ResRow, same_number}
use Rattle.std.specs.List.{filter}
use Rattle.farm_types.specs.Names.{expire, Farm, is_dead, IsAmong, IsSound, queue, res_of}
use Rattle.farm_types.specs.declared.rows.ResState.{ResState}
use Rattle.farm_sound.proofs.Own.{only_res, own_res}
use Rattle.farm_pick.proofs.Entries.{among_itself}
use Rattle.farm_pick.proofs.Taking.{any_own, none_any, reservations_go, reservations_differ}

module _ (F : Farm) (t : ℕ) (sound : IsSound F) where
  -- whether a dead reservation has the number
  abbrev ended : ℕ → Bool
  ended n = list_any (λ r. r.number == n) (filter (is_dead t) F.reservations)

  abbrev over : ResRow → ResRow
  over r = record r { state = ResState.Expired }

  -- a number that no reservation has
  pub none_ended : (n : ℕ) → AllByRecursion (λ r. (r.number == n) ≡ false) F.reservations → ended n ≡ false
  none_ended n differ = none_any (λ r. r.number == n) (filter (is_dead t) F.reservations)
      (AllByRecursion-weaker (λ r two. two.0) (filter (is_dead t) F.reservations) (filter_all (λ r. (r.number == n) ≡ false) (is_dead t) F.reservations differ))

  -- a reservation's own number
  ended_own : (r : ResRow) → IsAmong r F.reservations → res_of F r.number ≡ Some r → ended r.number ≡ is_dead t r
  ended_own r at own = any_own (is_dead t) (λ q. q.number == r.number) r F.reservations at (itself r.number)
      (AllByRecursion-weaker (λ q only same. only (same_number q.number r.number same)) F.reservations (only_res F sound.steady r.number r own))

  pub ends_follow : queue (expire F t) ≡ filter (λ c. not (ended c.number)) (queue F)
  ends_follow =
      reservations_go F (expire F t) (λ n. not (ended n)) (is_dead t) over sound.steady refl refl (λ r. refl) (λ r. refl)
      (AllByRecursion-weaker (λ j own. ap not (none_ended j.group (reservations_differ F sound.steady j.number j own))) F.jobs (own_job F sound.steady))
      (AllByRecursion-weaker (λ r two. ap not (ended_own r two.0 two.1)) F.reservations
      (AllByRecursion-both (λ r. IsAmong r F.reservations) (λ r. res_of F r.number ≡ Some r) F.reservations (among_itself F.reservations) (own_res F sound.steady)))
