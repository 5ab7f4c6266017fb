-- What a command that isn't refused has, and what it leaves: a sound farm, a small reply, and the kept replies.
use Rattle.std.proofs.Common.{◌==◌, ◌≡◌, ◌≤◌, List, None, Some, arith, false, true, ℕ}
use Rattle.farm_sound.proofs.Names.{Cmd, Farm, found_has, found_passes, job_of, JobRow, res_of, ResRow}
use Rattle.farm_types.specs.Names.{Done, done_with, first_code, is_full_for, is_proper_cmd, IsJobRow, IsName, IsResRow, IsSound, numbers_end, reasons}
use Rattle.farm_sound.proofs.Tests.{same_number}

-- what a command that isn't refused has
pub record IsAccepted (F : Farm) (t : ℕ) (who : List ℕ) (cmd : Cmd) : Type 0 where
  pub caller : IsName who
  pub proper : is_proper_cmd cmd ≡ true
  pub clear : first_code (reasons F t who cmd) ≡ None
  pub room : is_full_for F cmd ≡ false

-- what a command leaves
pub record Acted (F : Farm) (d : Done) : Type 0 where
  pub sound : IsSound d.farm
  pub kept : d.farm.kept ≡ F.kept
  pub first : d.reply.0 ≤ numbers_end
  pub second : d.reply.1 ≤ numbers_end
  pub third : d.reply.2 ≤ numbers_end

-- a reply of one number
pub acted_one : (F G : Farm) (number : ℕ) → G.kept ≡ F.kept → number ≤ numbers_end → IsSound G → Acted F (done_with number G)
acted_one F G number kept low sound = record { sound = sound; kept = kept; first = low; second = omega arith; third = omega arith }

-- the numbers of rows are small
pub low_job : (F : Farm) (n : ℕ) (j : JobRow) → job_of F n ≡ Some j → IsSound F → (n ≤ numbers_end) × (j.group ≤ numbers_end)
low_job F n j there sound =
    let is : IsJobRow F j = found_has (IsJobRow F) (λ r. r.number == n) j F.jobs sound.steady.jobs there in
    let at : j.number ≡ n = same_number j.number n (found_passes (λ (r : JobRow). r.number == n) j F.jobs there) in
    (omega (arith, is.number.1, sound.steady.next.1), omega (arith, is.group.0, is.number.1, sound.steady.next.1))

pub low_res : (F : Farm) (n : ℕ) (r : ResRow) → res_of F n ≡ Some r → IsSound F → n ≤ numbers_end
low_res F n r there sound =
    let is : IsResRow F r = found_has (IsResRow F) (λ r. r.number == n) r F.reservations sound.steady.reservations there in
    let at : r.number ≡ n = same_number r.number n (found_passes (λ (r : ResRow). r.number == n) r F.reservations there) in
    omega (arith, is.number.1, sound.steady.next.1)
