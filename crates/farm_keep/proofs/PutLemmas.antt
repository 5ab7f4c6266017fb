-- The rows of a sound farm: their numbers are small, and put into the empty farm they are it.
use Rattle.std.proofs.Common.{◌≡◌, refl, arith}
use Rattle.farm_types.specs.Names.{AreSmall, board_cmp, empty_farm, farm_of, IsSound, job_cmp, kept_cmp, put_rows, res_cmp, type_cmp}
use Rattle.farm_types.specs.declared.calls.Rows.{Rows}
use Rattle.farm_types.proofs.Put.{AllByRecursion-weaker}
use Rattle.farm_sound.proofs.Add.{job_total, res_total}
use Rattle.farm_sound.proofs.Boards.{board_total, type_total}
use Rattle.farm_sound.proofs.Numbers.{kept_total}
use Rattle.farm_core.proofs.Replies.Merged.{put_all_same}
use Rattle.farm_core.proofs.Sound.{fit_jobs, small_boards, small_collector, small_reservations, small_types}

pub rows_are : (r : Rows) → IsSound (farm_of r) → put_rows empty_farm r ≡ farm_of r
rows_are r is =
    let s = is.steady in
    let types = put_all_same type_cmp type_total r.types.items s.types_sorted in
    let boards = put_all_same board_cmp board_total r.boards.items s.boards_sorted in
    let jobs = put_all_same job_cmp job_total r.jobs.items s.jobs_sorted in
    let reservations = put_all_same res_cmp res_total r.reservations.items s.reservations_sorted in
    let kept = put_all_same kept_cmp kept_total r.kept.items s.kept_sorted in
    simp (types, boards, jobs, reservations, kept) refl

pub small_rows : (r : Rows) → IsSound (farm_of r) → AreSmall r
small_rows r is =
    let F = farm_of r in
    let s = is.steady in
    record {
      types = small_types F is;
      boards = small_boards F is;
      jobs = AllByRecursion-weaker (λ j fit. fit.small) F.jobs (fit_jobs F is);
      reservations = small_reservations F is;
      kept = AllByRecursion-weaker (λ k row. record {
        kind = omega (arith, row.kind.1);
        first = omega (arith, row.reply.0);
        second = omega (arith, row.reply.1);
        third = omega (arith, row.reply.2);
      }) F.kept s.kept;
      clock = omega (arith, s.clock);
      collector = small_collector F is;
      count = s.count;
      next = omega (arith, s.next.1);
    }
