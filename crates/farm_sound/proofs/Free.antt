-- The boards of the least list are free.
use Rattle.std.proofs.Common.{◌&&◌, ◌||◌, ◌∙◌, ◌≡◌, List, Some, ap, length, not, sym, true}
use Rattle.farm_sound.proofs.Names.{AllByRecursion, AllByRecursion-weaker, board_of, BoardRow, false≢true, Farm, Health, list_all, pointwise, TypeRow, Want}
use Rattle.std.specs.Cmp.Lexicographic.{as_long}
use Rattle.farm_types.specs.Names.{are_apart, check_of, fits, is_checked, is_free, is_nobody, IsAmong, IsSteady, least, same_health, serves}
use Rattle.farm_sound.proofs.Give.{IsFreeBoard}
use Rattle.farm_sound.proofs.Least.{IsLeast-least}
use Rattle.farm_sound.proofs.Lists.{all_tested, among_has}
use Rattle.farm_sound.proofs.Own.{own_board}
use Rattle.farm_sound.proofs.Tests.{both, nobody_from}
use Rattle.farm_sound.proofs.Where.{AllByRecursion-both}

pub serves_kept : (types : List TypeRow) (b : BoardRow) → serves types b ≡ true → b.health ≡ Health.Retired → ⊥
serves_kept types b is retired =
    false≢true (ap (λ h. same_health h Health.Good || (same_health h Health.Unknown && not (is_checked (check_of types b.kind)))) (sym retired) ∙ is)

pub free_boards : (F : Farm) (wants : List Want) (bs : List BoardRow) → IsSteady F → least F.boards (is_free F.types) wants ≡ Some bs
    → AllByRecursion (IsFreeBoard F) bs × (are_apart bs ≡ true) × (length bs ≡ length wants)
free_boards F wants bs steady found =
    let is = IsLeast-least F.boards (is_free F.types) wants bs steady.boards_sorted found in
    let outer = both (pointwise fits bs wants && are_apart bs) (list_all (is_free F.types) bs) is.meeting in
    let inner = both (pointwise fits bs wants) (are_apart bs) outer.0 in (
      AllByRecursion-weaker
          (λ b two. record {
            there = among_has (λ c. board_of F c.name ≡ Some c) b F.boards (own_board F steady) two.0;
            nobody = nobody_from b.holder (both (serves F.types b) (is_nobody b.holder) two.1).1;
            kept = serves_kept F.types b (both (serves F.types b) (is_nobody b.holder) two.1).0;
          })
          bs (AllByRecursion-both (λ b. IsAmong b F.boards) (λ b. is_free F.types b ≡ true) bs is.among (all_tested (is_free F.types) bs outer.1)),
      inner.1,
      as_long fits bs wants inner.0,
    )
