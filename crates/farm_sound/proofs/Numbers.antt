-- The empty farm, and what stays sound when the clock moves, a reply is kept or a command is counted.
use Rattle.std.proofs.Common.{◌<◌, ◌≡◌, ◌≤◌, IsSomeAnd, List, Some, arith, length, refl, ℕ}
use Rattle.farm_sound.proofs.Names.{AllByRecursion, AllByRecursion-put, board_of, empty_farm, Farm, Holder, IsTotalOrder, KeptRow}
use Rattle.std.specs.List.Sorted.{IsStrictlySortedBy}
use Rattle.farm_sound.proofs.Names.{length_put, nat_list_cmp_total, on_total, put_kept, put_sorted}
use Rattle.std.specs.Cmp.{then_total}
use Rattle.farm_types.specs.Names.{Hold, hold_of, IsKeptRow, IsSound, kept_cmp, last_moment, most_commands, most_replies, put}
use Rattle.farm_sound.proofs.Add.{IsHeldByKeys-same_rows}
use Rattle.farm_sound.proofs.Grow.{IsSteady-edited, no_edit, rows_grow}

-- ---- the empty farm

pub IsSound-empty : IsSound empty_farm
unfolding IsStrictlySortedBy
IsSound-empty = record {
  steady = record {
    types_sorted = tt;
    boards_sorted = tt;
    jobs_sorted = tt;
    reservations_sorted = tt;
    kept_sorted = tt;
    types = tt;
    boards = tt;
    jobs = tt;
    reservations = tt;
    kept = tt;
    few = grind (arith);
    few_of_kind = λ kind. omega arith;
    clock = omega arith;
    count = omega arith;
    next = (omega arith, omega arith);
  };
  held = record { boards = tt; rows = rows };
  whole = tt;
  collecting = record { only = tt; several = λ low. absurd (omega arith); waits = λ low. tt };
}
  where
    rows : (h : Holder) (x : Hold) → hold_of empty_farm h ≡ Some x → IsSomeAnd (board_of empty_farm x.board) (λ b. b.holder ≡ h)
    rows Holder.Nobody x is = cc
    rows h x is = cc

-- ---- the clock

pub IsSound-moved : (F : Farm) (t : ℕ) → F.clock ≤ t → t ≤ last_moment → IsSound F → IsSound (record F { clock = t })
IsSound-moved F t later low sound = record {
  steady = IsSteady-edited (record (no_edit F sound.steady) { farm = record F { clock = t }; later = later; clock = low })
      (rows_grow F (record F { clock = t }) sound.steady);
  held = IsHeldByKeys-same_rows F (record F { clock = t }) refl refl refl sound.held;
  whole = sound.whole;
  collecting = sound.collecting;
}

-- ---- a reply is kept, and the command is counted

pub kept_total : IsTotalOrder kept_cmp
kept_total = then_total (on_total (λ (r : KeptRow). r.caller) nat_list_cmp_total) (on_total (λ (r : KeptRow). r.key) nat_list_cmp_total)

IsSound-noted : (F : Farm) (kept : List KeptRow) (n : ℕ) → IsStrictlySortedBy kept_cmp kept → AllByRecursion IsKeptRow kept
    → length kept ≤ most_replies → n ≤ most_commands → IsSound F → IsSound (record F { kept = kept; count = n })
IsSound-noted F kept n sorted rows few low sound =
    let G : Farm = record F { kept = kept; count = n } in
    record {
      steady = IsSteady-edited
          (record (no_edit F sound.steady) { farm = G; kept_sorted = sorted; kept = rows; few = grind (arith, sound.steady.few, few); count = low }) (rows_grow F G sound.steady);
      held = IsHeldByKeys-same_rows F G refl refl refl sound.held;
      whole = sound.whole;
      collecting = sound.collecting;
    }

pub IsSound-put_kept : (F : Farm) (row : KeptRow) → IsKeptRow row → length F.kept < most_replies → IsSound F → IsSound (put_kept F row)
IsSound-put_kept F row is room sound =
    IsSound-noted F (put kept_cmp F.kept row) F.count (put_sorted kept_cmp kept_total row F.kept sound.steady.kept_sorted)
    (AllByRecursion-put kept_cmp kept_total row IsKeptRow is F.kept sound.steady.kept)
    (omega (arith, length_put kept_cmp kept_total row F.kept)) sound.steady.count sound

pub IsSound-counted : (F : Farm) (n : ℕ) → n ≤ most_commands → IsSound F → IsSound (record F { count = n })
IsSound-counted F n low sound = IsSound-noted F F.kept n sound.steady.kept_sorted sound.steady.kept (grind (arith, sound.steady.few)) low sound
