-- What a sound farm gives the commands.
use Rattle.std.proofs.Common.{[], ◌≡◌, ◌≤◌, ◌==◌, ℕ, List, ◌∷◌, length, ap, arith}
use Rattle.farm_core.proofs.Names.{AllByRecursion, AllByRecursion-weaker, BoardRow, Holder, IsFitJob, JobRow}
use Rattle.std.specs.List.{filter}
use Rattle.farm_types.specs.Names.{AreSmall, Farm, held_by, IsBoardRow, IsHeldBy, IsSmall, IsSmallBoard, IsSmallRes, IsSmallType, IsSound}
use Rattle.farm_types.specs.declared.rows.MetaRow.{MetaRow}
use Rattle.farm_types.specs.declared.calls.Rows.{Rows}
use Rattle.farm_core.specs.Came.{AreSmallRows}
use Rattle.farm_core.proofs.Small.{small_frequency}
use Rattle.farm_sound.proofs.Accepted.{low_job, low_res}
use Rattle.farm_sound.proofs.Where.{AllByRecursion-both}

module _ (F : Farm) (sound : IsSound F) where
  -- a holder's number is that of a row
  small_holder : (b : BoardRow) (h : Holder) → IsHeldBy F b h → IsSmall (held_by h)
  small_holder b Holder.Nobody held = omega arith
  small_holder b (Holder.Job n) held = grind (arith, low_job F n)
  small_holder b (Holder.Res n) held = grind (arith, low_res F n)

  small_board : (b : BoardRow) → IsBoardRow F b × IsHeldBy F b b.holder → IsSmallBoard b
  small_board b is = record {
    held_by = small_holder b b.holder is.1;
    numbers = (omega (arith, is.0.checked, sound.steady.clock), grind (arith, is.0.counts));
  }

  -- its rows can be tables
  pub small_types : AllByRecursion IsSmallType F.types
  small_types = AllByRecursion-weaker (λ r is. small_frequency r.check is.check) F.types sound.steady.types

  pub small_boards : AllByRecursion IsSmallBoard F.boards
  small_boards = AllByRecursion-weaker small_board F.boards (AllByRecursion-both (IsBoardRow F) (λ b. IsHeldBy F b b.holder) F.boards sound.steady.boards sound.held.boards)

  pub fit_jobs : AllByRecursion IsFitJob F.jobs
  fit_jobs = AllByRecursion-weaker (λ r is. record {
    small = record { number = omega (arith, is.number.1, sound.steady.next.1); group = omega (arith, is.group.0, is.number.1, sound.steady.next.1) };
    near = is.group;
  }) F.jobs sound.steady.jobs

  pub small_reservations : AllByRecursion IsSmallRes F.reservations
  small_reservations = AllByRecursion-weaker (λ r is. record { number = omega (arith, is.number.1, sound.steady.next.1); deadline = omega (arith, is.deadline, sound.steady.clock) }) F.reservations sound.steady.reservations

-- a group that has a member has a small number
small_group : (group : ℕ) (jobs : List JobRow) → AllByRecursion IsFitJob jobs → 1 ≤ length (filter (λ j. j.group == group) jobs) → IsSmall group
small_group group [] all some = absurd (omega arith)
small_group group (j ∷ jobs) all some = grind (arith, small_group group jobs all.1)

-- and so has the group that collects
pub small_collector : (F : Farm) → IsSound F → IsSmall F.collector
small_collector F sound = grind (arith, sound.collecting.several, small_group F.collector F.jobs (fit_jobs F sound), fit_jobs F sound)

-- the changed rows' numbers and the sound farm's own four are small
pub AreSmall-sound : (c : Rows) (G : Farm) → AreSmallRows c → c.meta ≡ record { clock = G.clock; collector = G.collector; count = G.count; next = G.next } → IsSound G → AreSmall c
AreSmall-sound c G rows meta sound = record {
  types = rows.types;
  boards = rows.boards;
  jobs = rows.jobs;
  reservations = rows.reservations;
  kept = rows.kept;
  clock = rw (ap (λ (m : MetaRow). m.clock) meta) (omega (arith, sound.steady.clock));
  collector = rw (ap (λ (m : MetaRow). m.collector) meta) (small_collector G sound);
  count = rw (ap (λ (m : MetaRow). m.count) meta) sound.steady.count;
  next = rw (ap (λ (m : MetaRow). m.next) meta) (omega (arith, sound.steady.next.1));
}
