use Rattle.std.proofs.Common.{◌+◌, ap, ◌∙◌, refl, arith}
use Rattle.farm_sound.proofs.Names.{AllByRecursion-weaker, ResRow, ResState, State}
use Rattle.farm_sound.proofs.Own.{only_res}
use Rattle.farm_sound.proofs.Reservations.{goes_on, IsSound-refresh, IsSound-cancel_res, IsSound-reserve}
use Rattle.farm_sound.proofs.laws.reservations_are_sound.Goals as goal

pub returns-clause-reserve : goal.returns-clause-reserve
returns-clause-reserve c = λ F caller priority tags name prio words room numbers sound. IsSound-reserve F caller priority tags name prio words room
    numbers sound

pub returns-clause-acquire : goal.returns-clause-acquire
returns-clause-acquire c = λ F caller n r there at sound.
    goes_on F n ResState.Allocated ResState.Acquired State.Reserved State.Running (λ d. d) (λ k low. low) refl refl
    (AllByRecursion-weaker (λ q one same. ap (λ (x : ResRow). x.state) (one same) ∙ at) F.reservations (only_res F sound.steady n r there)) sound

pub returns-clause-release : goal.returns-clause-release
returns-clause-release c = λ F caller n r there at sound.
    goes_on F n ResState.Acquired ResState.Allocated State.Running State.Reserved (λ d. F.clock + 60) (λ k low. omega arith) refl refl
    (AllByRecursion-weaker (λ q one same. ap (λ (x : ResRow). x.state) (one same) ∙ at) F.reservations (only_res F sound.steady n r there)) sound

pub returns-clause-refresh : goal.returns-clause-refresh
returns-clause-refresh c = λ F caller n sound. IsSound-refresh F n sound

pub returns-clause-cancel : goal.returns-clause-cancel
returns-clause-cancel c = λ F caller n sound. IsSound-cancel_res F n sound
