-- A farm is sound exactly where it is so row by row.
use Rattle.farm_sound.proofs.Names.{AllByRecursion-weaker, Farm}
use Rattle.farm_types.specs.Names.{IsBoardRow, IsJobRow, IsResRow, IsSound, IsSteady}
use Rattle.farm_sound.specs.ByRows.{IsInStep, IsNamedBy, IsShownOfJob, IsShownOfRes, IsSoundByRows}
use Rattle.farm_sound.proofs.Own.{own_job, own_res}
use Rattle.farm_sound.proofs.ShownHolders.{held_from_shown, jobs_from_keys, named_from_keys, reservations_from_keys}
use Rattle.farm_sound.proofs.Steps.{few_of_kinds, steps_from_whole, whole_from_steps}
use Rattle.farm_sound.proofs.Where.{AllByRecursion-both}

steady_from_rows : (F : Farm) → IsSoundByRows F → IsSteady F
steady_from_rows F is = record {
  types_sorted = is.bounds.ordered.types;
  boards_sorted = is.bounds.ordered.boards;
  jobs_sorted = is.bounds.ordered.jobs;
  reservations_sorted = is.bounds.ordered.reservations;
  kept_sorted = is.bounds.ordered.kept;
  types = is.types;
  boards = AllByRecursion-weaker (λ b it. it.row) F.boards is.boards;
  jobs = AllByRecursion-weaker (λ j it. it.row) F.jobs is.jobs;
  reservations = AllByRecursion-weaker (λ r it. it.row) F.reservations is.reservations;
  kept = is.kept;
  few = is.bounds.few.sizes;
  few_of_kind = few_of_kinds F (AllByRecursion-weaker (λ b it. it.few) F.boards is.boards);
  clock = is.bounds.few.clock;
  count = is.bounds.few.count;
  next = is.bounds.few.next;
}

pub sound_from_rows : (F : Farm) → IsSoundByRows F → IsSound F
sound_from_rows F is =
    let steady = steady_from_rows F is in
    record {
      steady = steady;
      held = held_from_shown F (AllByRecursion-weaker (λ b it. it.held) F.boards is.boards) (AllByRecursion-weaker (λ j it. it.shown) F.jobs is.jobs)
          (AllByRecursion-weaker (λ r it. it.shown) F.reservations is.reservations);
      whole = whole_from_steps F (own_job F steady) steady.jobs (AllByRecursion-weaker (λ j it. it.step) F.jobs is.jobs);
      collecting = is.collecting;
    }

pub rows_from_sound : (F : Farm) → IsSound F → IsSoundByRows F
rows_from_sound F is =
    let steady = is.steady in
    let jobs = AllByRecursion-both (IsInStep F) (IsShownOfJob F) F.jobs (steps_from_whole F steady.jobs is.whole)
    (jobs_from_keys F is.held (own_job F steady) steady.jobs) in
    record {
      bounds = record {
        ordered = record {
          types = steady.types_sorted;
          boards = steady.boards_sorted;
          jobs = steady.jobs_sorted;
          reservations = steady.reservations_sorted;
          kept = steady.kept_sorted;
        };
        few = record {
          sizes = steady.few;
          clock = steady.clock;
          count = steady.count;
          next = steady.next;
        };
      };
      types = steady.types;
      boards = AllByRecursion-weaker (λ b two. record { row = two.0; few = steady.few_of_kind b.kind; held = two.1 }) F.boards
          (AllByRecursion-both (IsBoardRow F) (λ b. IsNamedBy F b b.holder) F.boards steady.boards (named_from_keys F is.held));
      jobs = AllByRecursion-weaker (λ j two. record { row = two.0; step = two.1.0; shown = two.1.1 }) F.jobs
          (AllByRecursion-both (IsJobRow F) (λ j. IsInStep F j × IsShownOfJob F j) F.jobs steady.jobs jobs);
      reservations = AllByRecursion-weaker (λ r two. record { row = two.0; shown = two.1 }) F.reservations
          (AllByRecursion-both (IsResRow F) (IsShownOfRes F) F.reservations steady.reservations
          (reservations_from_keys F is.held (own_res F steady) steady.reservations));
      kept = steady.kept;
      collecting = is.collecting;
    }
