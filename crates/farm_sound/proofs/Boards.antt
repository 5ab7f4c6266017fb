-- The commands on types and boards keep soundness.
use Rattle.std.proofs.Common.{◌+◌, ◌<◌, ◌∙◌, ◌∷◌, ◌≡◌, ◌≤◌, Bool, IsSomeAnd, List, None, Some, ap, arith, cond, false, length, refl, subst, sym, true, ℕ, []}
use Rattle.farm_sound.proofs.Names.{AllByRecursion-put, AllByRecursion-weaker, board_of, BoardRow, bytes_eq, bytes_eq-Decides, count_put, count_replaced, Equal}
use Rattle.farm_sound.proofs.Names.{Farm, filter, find, find_put, find_put_is, found_has, found_passes, Holder, is_eq, is_eq-slice_cmp, IsTotalOrder}
use Rattle.farm_sound.proofs.Names.{length_put, nat_list_cmp_total, nat_list_eq_equiv, on_total, put_board, put_sorted, put_type, State, tied_itself, TypeRow}
use Rattle.farm_types.specs.Names.{board_cmp, freed_board, held_board, Hold, hold_of, holds, IsBoardRow, IsHeldBy, IsHeldByKeys, IsSound, IsSteady, IsTypeRow}
use Rattle.farm_types.specs.Names.{most_boards, most_boards_of_type, text_cmp, type_cmp}
use Rattle.farm_sound.proofs.Add.{IsHeldByKeys-same_rows}
use Rattle.farm_sound.proofs.Grow.{IsBoardRow-grows, IsSteady-edited, no_edit, rows_grow, same_texts}

pub type_total : IsTotalOrder type_cmp
type_total = on_total (λ (r : TypeRow). r.name) nat_list_cmp_total

pub board_total : IsTotalOrder board_cmp
board_total = on_total (λ (r : BoardRow). r.name) nat_list_cmp_total

-- ---- a type is added

pub IsSound-put_type : (F : Farm) (row : TypeRow) → IsTypeRow row → length F.types < most_boards_of_type → IsSound F → IsSound (put_type F row)
IsSound-put_type F row is room sound = record {
  steady = IsSteady-edited
      (record (no_edit F sound.steady) {
        farm = put_type F row;
        more_types = λ k. find_put type_cmp type_total row (λ r. bytes_eq r.name k) (λ r tie. ap (λ n. bytes_eq n k) (same_texts row.name r.name tie)) F.types;
        types_sorted = put_sorted type_cmp type_total row F.types sound.steady.types_sorted;
        types = AllByRecursion-put type_cmp type_total row IsTypeRow is F.types sound.steady.types;
        few = grind (arith, sound.steady.few, length_put type_cmp type_total row F.types);
      })
      (rows_grow F (put_type F row) sound.steady);
  held = IsHeldByKeys-same_rows F (put_type F row) refl refl refl sound.held;
  whole = sound.whole;
  collecting = sound.collecting;
}

-- ---- a board is put

text_ties : (a b k : List ℕ) → bytes_eq a k ≡ true → bytes_eq b k ≡ true → text_cmp a b ≡ Equal
text_ties a b k here there =
    let e : a ≡ b = (bytes_eq-Decides a k).0 here ∙ sym ((bytes_eq-Decides b k).0 there) in
    subst (λ x. text_cmp a x ≡ Equal) e (tied_itself nat_list_cmp_total a)

-- the board of a name is the row, where this is its name, or the one from before
board_of-put : (F : Farm) (row : BoardRow) (k : List ℕ) → board_of (put_board F row) k ≡ cond (bytes_eq row.name k) (Some row) (board_of F k)
board_of-put F row k =
    find_put_is board_cmp board_total row (λ r. bytes_eq r.name k) (λ r tie. ap (λ n. bytes_eq n k) (same_texts row.name r.name tie))
    (λ r. text_ties row.name r.name k) F.boards

-- the row's place among the boards keeps all that a farm promises but the counts of boards
IsSteady-put_board : (F : Farm) (row : BoardRow) → IsBoardRow F row → length (put_board F row).boards ≤ most_boards
    → ((kind : List ℕ) → length (filter (λ b. bytes_eq b.kind kind) (put_board F row).boards) ≤ most_boards_of_type) → IsSteady F → IsSteady (put_board F row)
IsSteady-put_board F row is few few_of_kind steady = IsSteady-edited
    (record (no_edit F steady) {
      farm = put_board F row;
      more_boards = λ k. find_put board_cmp board_total row (λ r. bytes_eq r.name k) (λ r tie. ap (λ n. bytes_eq n k) (same_texts row.name r.name tie)) F.boards;
      boards_sorted = put_sorted board_cmp board_total row F.boards steady.boards_sorted;
      few = grind (arith, steady.few, few);
      few_of_kind = few_of_kind;
    })
    (λ grows. let old = rows_grow F (put_board F row) steady grows in
    (AllByRecursion-put board_cmp board_total row (IsBoardRow (put_board F row)) (IsBoardRow-grows F (put_board F row) grows row is) F.boards old.0, old.1, old.2))

-- the row's holder is right, and it names the row's board where that is asked
IsHeldByKeys-put_board : (F : Farm) (row : BoardRow) → IsHeldBy F row row.holder
    → ((h : Holder) → IsSomeAnd (board_of F row.name) (λ b. b.holder ≡ h) → row.holder ≡ h) → IsHeldByKeys F → IsHeldByKeys (put_board F row)
IsHeldByKeys-put_board F row held_by holds held_board = record {
  boards = AllByRecursion-put board_cmp board_total row (λ b. IsHeldBy G b b.holder) (still row row.holder held_by) F.boards
      (AllByRecursion-weaker (λ b. still b b.holder) F.boards held_board.boards);
  rows = rows;
}
  where
    G : Farm
    G = put_board F row

    same : (h : Holder) → hold_of G h ≡ hold_of F h
    same Holder.Nobody = refl
    same (Holder.Job n) = refl
    same (Holder.Res n) = refl

    still : (b : BoardRow) (h : Holder) → IsHeldBy F b h → IsHeldBy G b h
    still b Holder.Nobody is = is
    still b h is = is

    rows : (h : Holder) (x : Hold) → hold_of G h ≡ Some x → IsSomeAnd (board_of G x.board) (λ b. b.holder ≡ h)
    rows h x is = subst (λ o. IsSomeAnd o (λ b. b.holder ≡ h)) (sym (board_of-put F row x.board))
        (by (bytes_eq row.name x.board) refl (held_board.rows h x (sym (same h) ∙ is)))
      where
        by : (v : Bool) → bytes_eq row.name x.board ≡ v → IsSomeAnd (board_of F x.board) (λ b. b.holder ≡ h)
            → IsSomeAnd (cond v (Some row) (board_of F x.board)) (λ b. b.holder ≡ h)
        by true at was = holds h (subst (λ k. IsSomeAnd (board_of F k) (λ b. b.holder ≡ h)) (sym ((bytes_eq-Decides row.name x.board).0 at)) was)
        by false at was = was

-- ---- a board is added

-- the type's count has room for one more, and the others stay
few_more : (F : Farm) (row : BoardRow) → length (filter (λ b. bytes_eq b.kind row.kind) F.boards) < most_boards_of_type
    → (kind : List ℕ) → length (filter (λ b. bytes_eq b.kind kind) F.boards) ≤ most_boards_of_type
    → (n : ℕ) → n ≤ length (filter (λ b. bytes_eq b.kind kind) F.boards) + cond (bytes_eq row.kind kind) 1 0 → n ≤ most_boards_of_type
few_more F row room kind few n more = by (bytes_eq row.kind kind) refl more
  where
    by : (v : Bool) → bytes_eq row.kind kind ≡ v → n ≤ length (filter (λ b. bytes_eq b.kind kind) F.boards) + cond v 1 0 → n ≤ most_boards_of_type
    by true is more =
        let same : row.kind ≡ kind = (bytes_eq-Decides row.kind kind).0 is in
        let room' : length (filter (λ b. bytes_eq b.kind kind) F.boards) < most_boards_of_type = subst (λ k. length (filter (λ b. bytes_eq b.kind k) F.boards) < most_boards_of_type) same room in
        omega arith
    by false is more = omega arith

-- a board with a new name is added, whose type has room
pub IsSound-put_board : (F : Farm) (row : BoardRow) → IsBoardRow F row → board_of F row.name ≡ None → row.holder ≡ Holder.Nobody → row.state ≡ State.Idle
    → length F.boards < most_boards → length (filter (λ b. bytes_eq b.kind row.kind) F.boards) < most_boards_of_type → IsSound F → IsSound (put_board F row)
IsSound-put_board F row is absent nobody freed_board room room_of_kind sound = record {
  steady = IsSteady-put_board F row is (omega (arith, length_put board_cmp board_total row F.boards))
      (λ kind. few_more F row room_of_kind kind (sound.steady.few_of_kind kind) _
      (count_put board_cmp board_total row (λ b. bytes_eq b.kind kind) F.boards)) sound.steady;
  held = IsHeldByKeys-put_board F row (subst (IsHeldBy F row) (sym nobody) freed_board)
      (λ h was. absurd (subst (λ o. IsSomeAnd o (λ b. b.holder ≡ h)) absent was)) sound.held;
  whole = sound.whole;
  collecting = sound.collecting;
}

-- ---- a board is changed

-- the row stands in the place of the board b: it has its name, type, holder and state
pub record Replaces (b row : BoardRow) : Type 0 where
  pub name : row.name ≡ b.name
  pub kind : row.kind ≡ b.kind
  pub holder : row.holder ≡ b.holder
  pub state : row.state ≡ b.state

held_by_same : (F : Farm) (b row : BoardRow) (h : Holder) → Replaces b row → IsHeldBy F b h → IsHeldBy F row h
held_by_same F b row Holder.Nobody same held_by = same.state ∙ held_by
held_by_same F b row h same held_by = held_by ∙ (λ i. Some (record { board = sym same.name i; holder = sym same.holder i; state = sym same.state i }))

-- the test by which a board is found is that of its key
tied : (name : List ℕ) (row : BoardRow) → row.name ≡ name → (r : BoardRow) → bytes_eq r.name name ≡ is_eq (board_cmp row r)
tied name row is r = nat_list_eq_equiv.symm r.name name ∙ ap (λ n. bytes_eq n r.name) (sym is) ∙ sym (is_eq-slice_cmp row.name r.name)

find_same : {R : Type 0} (p q : R → Bool) → ((r : R) → p r ≡ q r) → (rows : List R) → find p rows ≡ find q rows
find_same p q same [] = refl
find_same p q same (r ∷ rows) = λ i. cond (same r i) (Some r) (find_same p q same rows i)

pub IsSound-replace_board : (F : Farm) (name : List ℕ) (b row : BoardRow) → board_of F name ≡ Some b → Replaces b row
    → (IsBoardRow F b → IsBoardRow F row) → IsSound F → IsSound (put_board F row)
IsSound-replace_board F name b row found same is sound =
    let b_is : b.name ≡ name = (bytes_eq-Decides b.name name).0 (found_passes (λ r. bytes_eq r.name name) b F.boards found) in
    let there : find (λ r. is_eq (board_cmp row r)) F.boards ≡ Some b =
    sym (find_same (λ r. bytes_eq r.name name) (λ r. is_eq (board_cmp row r)) (tied name row (same.name ∙ b_is)) F.boards) ∙ found in
    let counts = λ (kind : List ℕ). count_replaced board_cmp board_total row (λ r. bytes_eq r.kind kind) b (ap (λ k. bytes_eq k kind) same.kind)
    F.boards sound.steady.boards_sorted there in
    let old : IsBoardRow F b = found_has (IsBoardRow F) (λ r. bytes_eq r.name name) b F.boards sound.steady.boards found in
    let held_by : IsHeldBy F b b.holder = found_has (λ b. IsHeldBy F b b.holder) (λ r. bytes_eq r.name name) b F.boards sound.held.boards found in
    let named : board_of F row.name ≡ Some b = ap (board_of F) (same.name ∙ b_is) ∙ found in
    record {
      steady = IsSteady-put_board F row (is old) (grind (arith, (counts []).1, sound.steady.few))
          (λ kind. omega (arith, (counts kind).0, sound.steady.few_of_kind kind)) sound.steady;
      held = IsHeldByKeys-put_board F row (subst (IsHeldBy F row) (sym same.holder) (held_by_same F b row b.holder same held_by))
          (λ h was. same.holder ∙ subst (λ o. IsSomeAnd o (λ b. b.holder ≡ h)) named was) sound.held;
      whole = sound.whole;
      collecting = sound.collecting;
    }
