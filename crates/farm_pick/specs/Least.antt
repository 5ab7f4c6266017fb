-- The least list by its places, and what is true of the least list that no code says.
use Rattle.std.specs.Prelude.{◌≡◌, ℕ, Bool, List, filter_map, slice_get, IsTrue, MatchOption}
use Rattle.std.specs.List.Sorted.{IsStrictlySortedBy}
use Rattle.farm_types.specs.Names.{AreAmong, board_cmp, IsLeast, least, meets}
use Rattle.farm_types.specs.declared.rows.BoardRow.{BoardRow}
use Rattle.farm_types.specs.declared.rows.Want.{Want}

-- the boards at some places
abbrev pub boards_at : List BoardRow → List ℕ → List BoardRow
boards_at boards places = filter_map (slice_get boards) places

-- of boards in strict name order, the search gives the least list, or None only where no list of
-- them meets the wants
abbrev pub SearchGivesLeast : Type 0
SearchGivesLeast =
    (boards : List BoardRow) (test : BoardRow → Bool) (wants : List Want)
    → IsStrictlySortedBy board_cmp boards →
    MatchOption (least boards test wants) ((bs : List BoardRow) → AreAmong boards bs
    → IsTrue (meets test wants bs) → ⊥) (IsLeast boards test wants)

-- there is one least list at most
abbrev pub LeastIsOne : Type 0
LeastIsOne =
    (boards : List BoardRow) (test : BoardRow → Bool) (wants : List Want) (bs cs : List BoardRow)
    → IsStrictlySortedBy board_cmp boards →
    IsLeast boards test wants bs → IsLeast boards test wants cs → bs ≡ cs
