-- The free boards follow the rows of boards.
use native.Mathlib.Omega.{arith}
use Rattle.std.proofs.Common.{[], ◌≡◌, ◌∙◌, ◌≢◌, ◌++◌, ℕ, List, ◌∷◌, map, Bool, true, false, cond, not, Some, None, IsSome, is_some}
use Rattle.std.proofs.Common.{refl, sym, ap, subst, append-nil}
use Rattle.farm_core.proofs.Names.{AllByRecursion, AllByRecursion-weaker, BoardRow, bytes_eq, Cmd, Equal, filter_all, fold, Greater, idle_boards}
use Rattle.farm_core.proofs.Names.{IdleBoard, is_eq, IsStrictlySortedBy, Less, match_ordering, Ordering, ordering_reverse, put_sorted}
use Rattle.farm_core.proofs.Names.{same_names, TypeRow}
use Rattle.std.specs.Cmp.Lexicographic.{nat_list_cmp_total}
use Rattle.std.specs.List.{filter}
use Rattle.std.proofs.lemmas.List.{append_assoc}
use Rattle.std.proofs.lemmas.Slice.Eq.{bytes_eq-Decides}
use Rattle.std.proofs.lemmas.Cmp.{tied_itself}
use Rattle.farm_types.specs.Names.{act, board_cmp, check_one, checks, expire, Farm}
use Rattle.farm_types.specs.Names.{giving_back, is_due, is_free, IsSound, IsSteady}
use Rattle.farm_types.specs.Names.{put, put_all, put_type, text_cmp, type_cmp, type_exists, type_of}
use Rattle.farm_types.proofs.Put.{find_put_is}
use Rattle.farm_sound.proofs.Accepted.{IsAccepted}
use Rattle.farm_sound.proofs.Boards.{board_total, type_total}
use Rattle.farm_sound.proofs.Clear.{first_clear, none_of}
use Rattle.farm_sound.proofs.Grow.{same_texts}
use Rattle.farm_sound.proofs.Own.{text_itself}
use Rattle.farm_sound.proofs.Puts.{names_apart}
use Rattle.farm_sound.proofs.Where.{AllByRecursion-map}
use Rattle.farm_pick.specs.Index.{named_cmp}
use Rattle.farm_pick.specs.Queued.{idle_board}
use Rattle.farm_core.specs.Following.{free_of, free_boards_with, without_board}

-- ---- one row

put_front : (x : IdleBoard) (xs : List IdleBoard) → AllByRecursion (λ y. named_cmp x y ≡ Less) xs → put named_cmp xs x ≡ x ∷ xs
put_front x [] all = refl
put_front x (y ∷ ys) all = ap (λ o. match_ordering o (x ∷ y ∷ ys) (x ∷ ys) (y ∷ put named_cmp ys x)) all.0

-- boards of greater names stay
none_without : (name : List ℕ) (xs : List IdleBoard) → AllByRecursion (λ y. text_cmp name y.name ≡ Less) xs → without_board xs name ≡ xs
none_without name [] all = refl
none_without name (y ∷ ys) all =
    ap (λ v. cond (not v) (y ∷ without_board ys name) (without_board ys name)) (names_apart name name y.name all.0 (text_itself name))
    ∙ ap (λ rest. y ∷ rest) (none_without name ys all.1)

module _ (types : List TypeRow) (row : BoardRow) where
  abbrev Above : BoardRow → Type 0
  Above z = board_cmp row z ≡ Less

  free_above : (bs : List BoardRow) → AllByRecursion Above bs → AllByRecursion (λ (x : IdleBoard). text_cmp row.name x.name ≡ Less) (free_of types bs)
  free_above bs above =
      AllByRecursion-map (λ z. Above z × (is_free types z ≡ true)) (λ (x : IdleBoard). text_cmp row.name x.name ≡ Less) idle_board (λ z two. two.0) (filter (is_free types) bs)
      (filter_all Above (is_free types) bs above)

  below : (bs : List BoardRow) → AllByRecursion Above bs → free_boards_with types (free_of types bs) row ≡ free_of types (row ∷ bs)
  below bs above = grind (arith, put_front (idle_board row) (free_of types bs) (free_above bs above), free_above bs above, none_without row.name (free_of types bs) (free_above bs above))

  instead : (b : BoardRow) (bs : List BoardRow) → board_cmp row b ≡ Equal → AllByRecursion Above bs → free_boards_with types (free_of types (b ∷ bs)) row ≡ free_of types (row ∷ bs)
  instead b bs is above = by (is_free types row) (is_free types b)
    where
      same : bytes_eq b.name row.name ≡ true
      same = same_names b.name row.name ∙ ap is_eq (board_total.antisymm b row ∙ ap ordering_reverse is)

      by : (v w : Bool) → cond v (put named_cmp (map idle_board (cond w (b ∷ filter (is_free types) bs) (filter (is_free types) bs))) (idle_board row))
          (without_board (map idle_board (cond w (b ∷ filter (is_free types) bs) (filter (is_free types) bs))) row.name)
          ≡ map idle_board (cond v (row ∷ filter (is_free types) bs) (filter (is_free types) bs))
      by true true = ap (λ o. match_ordering o (idle_board row ∷ idle_board b ∷ free_of types bs) (idle_board row ∷ free_of types bs) (idle_board b ∷ put named_cmp (free_of types bs) (idle_board row))) is
      by true false = put_front (idle_board row) (free_of types bs) (free_above bs above)
      by false true = ap (λ v. cond (not v) (idle_board b ∷ without_board (free_of types bs) row.name) (without_board (free_of types bs) row.name)) same
          ∙ none_without row.name (free_of types bs) (free_above bs above)
      by false false = none_without row.name (free_of types bs) (free_above bs above)

  behind : (b : BoardRow) (bs : List BoardRow) → board_cmp row b ≡ Greater → free_boards_with types (free_of types bs) row ≡ free_of types (put board_cmp bs row)
      → free_boards_with types (free_of types (b ∷ bs)) row ≡ free_of types (b ∷ put board_cmp bs row)
  behind b bs is rest = by (is_free types row) (is_free types b) rest
    where
      other : bytes_eq b.name row.name ≡ false
      other = same_names b.name row.name ∙ ap is_eq (board_total.antisymm b row ∙ ap ordering_reverse is)

      by : (v w : Bool) → cond v (put named_cmp (free_of types bs) (idle_board row)) (without_board (free_of types bs) row.name) ≡ free_of types (put board_cmp bs row)
          → cond v (put named_cmp (map idle_board (cond w (b ∷ filter (is_free types) bs) (filter (is_free types) bs))) (idle_board row))
          (without_board (map idle_board (cond w (b ∷ filter (is_free types) bs) (filter (is_free types) bs))) row.name)
          ≡ map idle_board (cond w (b ∷ filter (is_free types) (put board_cmp bs row)) (filter (is_free types) (put board_cmp bs row)))
      by true true rest = ap (λ o. match_ordering o (idle_board row ∷ idle_board b ∷ free_of types bs) (idle_board row ∷ free_of types bs) (idle_board b ∷ put named_cmp (free_of types bs) (idle_board row))) is
          ∙ ap (λ xs. idle_board b ∷ xs) rest
      by false true rest = ap (λ v. cond (not v) (idle_board b ∷ without_board (free_of types bs) row.name) (without_board (free_of types bs) row.name)) other
          ∙ ap (λ xs. idle_board b ∷ xs) rest
      by true false rest = rest
      by false false rest = rest

  noted_put : (bs : List BoardRow) → IsStrictlySortedBy board_cmp bs → free_boards_with types (free_of types bs) row ≡ free_of types (put board_cmp bs row)
  unfolding IsStrictlySortedBy
  noted_put [] sorted = below [] tt
  noted_put (b ∷ bs) sorted = by (board_cmp row b) refl (noted_put bs sorted.1)
    where
      by : (o : Ordering) → board_cmp row b ≡ o → free_boards_with types (free_of types bs) row ≡ free_of types (put board_cmp bs row)
          → free_boards_with types (free_of types (b ∷ bs)) row ≡ free_of types (match_ordering o (row ∷ b ∷ bs) (row ∷ bs) (b ∷ put board_cmp bs row))
      by Less is rest = below (b ∷ bs) (is, AllByRecursion-weaker (λ z less. board_total.trans row b z is less) bs sorted.0)
      by Equal is rest = instead b bs is (AllByRecursion-weaker (λ z less. board_total.congr row b z is ∙ less) bs sorted.0)
      by Greater is rest = behind b bs is rest

-- ---- all changed rows

pub noted_all : (types : List TypeRow) (rows bs : List BoardRow) → IsStrictlySortedBy board_cmp bs
    → fold (free_boards_with types) (free_of types bs) rows ≡ free_of types (put_all board_cmp bs rows)
noted_all types [] bs sorted = refl
noted_all types (row ∷ rows) bs sorted =
    ap (λ xs. fold (free_boards_with types) xs rows) (noted_put types row bs sorted)
    ∙ noted_all types rows (put board_cmp bs row) (put_sorted board_cmp board_total row bs sorted)

-- ---- what the commands do with types

text_ties : (a b k : List ℕ) → bytes_eq a k ≡ true → bytes_eq b k ≡ true → text_cmp a b ≡ Equal
text_ties a b k here there =
    let e : a ≡ b = (bytes_eq-Decides a k).0 here ∙ sym ((bytes_eq-Decides b k).0 there) in
    subst (λ x. text_cmp a x ≡ Equal) e (tied_itself nat_list_cmp_total a)

filter_same : {A : Type 0} (p q : A → Bool) (xs : List A) → AllByRecursion (λ x. p x ≡ q x) xs → filter p xs ≡ filter q xs
filter_same p q [] all = refl
filter_same p q (x ∷ xs) all =
    ap (λ v. cond v (x ∷ filter p xs) (filter p xs)) all.0
    ∙ ap (λ rest. cond (q x) (x ∷ rest) rest) (filter_same p q xs all.1)

module _ (F : Farm) (row : TypeRow) (new : type_of F row.name ≡ None) where
  -- a type that is there isn't the new one
  other_kind : (kind : List ℕ) → IsSome (type_of F kind) → bytes_eq row.name kind ≡ false
  other_kind kind there = grind (arith, bytes_eq-Decides row.name kind)

  same_type : (kind : List ℕ) → IsSome (type_of F kind) → type_of (put_type F row) kind ≡ type_of F kind
  same_type kind there =
      find_put_is type_cmp type_total row (λ t. bytes_eq t.name kind) (λ t tie. ap (λ n. bytes_eq n kind) (same_texts row.name t.name tie))
      (λ t. text_ties row.name t.name kind) F.types
      ∙ ap (λ v. cond v (Some row) (type_of F kind)) (other_kind kind there)

  -- a type that is added frees no board
  pub free_added : IsSteady F → free_of (put_type F row).types F.boards ≡ idle_boards F
  free_added steady = grind (arith, filter_same, AllByRecursion-weaker, same_type)

-- no other command but a pass changes the types
pub free_after : (F : Farm) (t : ℕ) (caller : List ℕ) (cmd : Cmd) → IsSound F → IsAccepted F t caller cmd → cmd ≢ Cmd.Pass → free_of (act F caller cmd).farm.types F.boards ≡ idle_boards F
free_after F t caller (Cmd.AddType name check) sound is other = free_added F (record { name = name; check = check }) (none_of (type_of F name) (first_clear (is_some (type_of F name)) type_exists [] is.clear).0) sound.steady
free_after F t caller (Cmd.AddBoard name kind tags) sound is other = refl
free_after F t caller (Cmd.SetTags name tags) sound is other = grind arith
free_after F t caller (Cmd.SetHealth name health) sound is other = grind arith
free_after F t caller (Cmd.Submit priority wants roles body) sound is other = refl
free_after F t caller (Cmd.Cancel number) sound is other = grind arith
free_after F t caller (Cmd.Start number) sound is other = grind arith
free_after F t caller (Cmd.Finish number outcome) sound is other = grind arith
free_after F t caller (Cmd.Reserve priority tags) sound is other = refl
free_after F t caller (Cmd.Acquire number) sound is other = refl
free_after F t caller (Cmd.Release number) sound is other = refl
free_after F t caller (Cmd.Refresh number) sound is other = refl
free_after F t caller (Cmd.CancelRes number) sound is other = refl
free_after F t caller Cmd.Pass sound is other = absurd (other refl)

-- ---- and those of a pass

checked_types : (bs : List BoardRow) (F : Farm) → (fold check_one F bs).types ≡ F.types
checked_types [] F = refl
checked_types (b ∷ bs) F = grind (arith, checked_types bs (check_one F b))

pub prepared_types : (F : Farm) → (checks (expire (giving_back F) F.clock) F.clock).types ≡ F.types
prepared_types F = checked_types (filter (is_due (expire (giving_back F) F.clock) F.clock) (expire (giving_back F) F.clock).boards) (expire (giving_back F) F.clock)

-- ---- from no boards at all

-- rows in order are put one behind the other
module _ (row : BoardRow) where
  put_last : (bs : List BoardRow) → AllByRecursion (λ b. board_cmp b row ≡ Less) bs → put board_cmp bs row ≡ bs ++ (row ∷ [])
  put_last [] all = refl
  put_last (b ∷ bs) all =
      ap (λ o. match_ordering o (row ∷ b ∷ bs) (row ∷ bs) (b ∷ put board_cmp bs row)) (board_total.antisymm row b ∙ ap ordering_reverse all.0)
      ∙ ap (λ rest. b ∷ rest) (put_last bs all.1)

above_first : (x : BoardRow) (xs : List BoardRow) (y : BoardRow) (ys : List BoardRow) → AllByRecursion (λ z. board_cmp x z ≡ Less) (xs ++ (y ∷ ys)) → board_cmp x y ≡ Less
above_first x [] y ys all = all.0
above_first x (z ∷ xs) y ys all = above_first x xs y ys all.1

all_below : (xs : List BoardRow) (y : BoardRow) (ys : List BoardRow) → IsStrictlySortedBy board_cmp (xs ++ (y ∷ ys)) → AllByRecursion (λ b. board_cmp b y ≡ Less) xs
unfolding IsStrictlySortedBy
all_below [] y ys sorted = tt
all_below (x ∷ xs) y ys sorted = (above_first x xs y ys sorted.0, all_below xs y ys sorted.1)

put_behind : (xs ys : List BoardRow) → IsStrictlySortedBy board_cmp (xs ++ ys) → put_all board_cmp xs ys ≡ xs ++ ys
put_behind xs [] sorted = sym (append-nil xs)
put_behind xs (y ∷ ys) sorted =
    ap (λ bs. put_all board_cmp bs ys) (put_last y xs (all_below xs y ys sorted))
    ∙ put_behind (xs ++ (y ∷ [])) ys (subst (IsStrictlySortedBy board_cmp) (sym (append_assoc xs (y ∷ []) ys)) sorted)
    ∙ append_assoc xs (y ∷ []) ys

pub noted_whole : (types : List TypeRow) (bs : List BoardRow) → IsStrictlySortedBy board_cmp bs → fold (free_boards_with types) [] bs ≡ free_of types bs
unfolding IsStrictlySortedBy
noted_whole types bs sorted = noted_all types bs [] tt ∙ ap (free_of types) (put_behind [] bs sorted)
