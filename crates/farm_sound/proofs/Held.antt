-- Who holds which board, found by keys, after rows have changed, and after a board was given.
use native.Mathlib.Omega.{arith}
use Rattle.std.proofs.Common.{Bool, IsSomeAnd, List, None, Option, Some, ap, cond, false, inl, inr, map, refl, subst, sym, true, ℕ, ◌==◌, ◌∙◌, ◌≡◌, ◌⊎◌}
use Rattle.farm_sound.proofs.Names.{AllByRecursion, board_of, BoardRow, bytes_eq, bytes_eq-Decides, false≢true, Farm, find, found_has, found_passes, Holder}
use Rattle.farm_sound.proofs.Names.{job_of, JobRow, option_map, option_map_or, res_of, ResRow, State, true≢false}
use Rattle.farm_types.specs.Names.{held_board, Hold, hold, hold_of, IsHeldBy, IsHeldByKeys, job_gives, job_hold, res_gives, res_hold, shown_hold}
use Rattle.farm_sound.proofs.Tests.{same_number}
use Rattle.farm_sound.proofs.Where.{AllByRecursion-map, by_cases, changed}

-- ---- who holds which board, found by keys, after rows have changed

-- a hold names its holder
pub hold_names : (h : Holder) (board : Option (List ℕ)) (state : Option State) (x : Hold) → hold h board state ≡ Some x → x.holder ≡ h
hold_names h None state x is = cc
hold_names h (Some name) None x is = cc
hold_names h (Some name) (Some state) x is = let e : record { board = name; holder = h; state = state } ≡ x = cc in sym (ap (λ (y : Hold). y.holder) e)

-- what a number holds is a row's
pub held_row : {R : Type 0} (number : R → ℕ) (held : R → Option Hold) (rows : List R) (n : ℕ) (x : Hold)
    → option_map_or held (find (λ r. number r == n) rows) None ≡ Some x → (r : R) × (find (λ r. number r == n) rows ≡ Some r) × (number r ≡ n) × (held r ≡ Some x)
held_row {R = R} number held rows n x is = grind (arith, same_number, found_passes)

pub row_of_job : (F : Farm) (n : ℕ) (x : Hold) → hold_of F (Holder.Job n) ≡ Some x
    → (j : JobRow) × (job_of F n ≡ Some j) × (j.number ≡ n) × (job_hold j ≡ Some x)
row_of_job F n x is = held_row (λ (j : JobRow). j.number) job_hold F.jobs n x is

pub row_of_res : (F : Farm) (n : ℕ) (x : Hold) → hold_of F (Holder.Res n) ≡ Some x
    → (r : ResRow) × (res_of F n ≡ Some r) × (r.number ≡ n) × (res_hold r ≡ Some x)
row_of_res F n x is = held_row (λ (r : ResRow). r.number) res_hold F.reservations n x is

pub holder_is : (F : Farm) (h : Holder) (x : Hold) → hold_of F h ≡ Some x → x.holder ≡ h
holder_is F Holder.Nobody x is = cc
holder_is F (Holder.Job n) x is =
    let j = row_of_job F n x is in hold_names (Holder.Job j.0.number) j.0.board (job_gives j.0.state) x j.3 ∙ ap Holder.Job j.2
holder_is F (Holder.Res n) x is =
    let r = row_of_res F n x is in hold_names (Holder.Res r.0.number) r.0.board (res_gives r.0.state) x r.3 ∙ ap Holder.Res r.2

-- a board's holder that holds something holds this board
pub held_is : (F : Farm) (b : BoardRow) (h : Holder) (x : Hold) → IsHeldBy F b h → hold_of F h ≡ Some x → x ≡ shown_hold b
held_is F b Holder.Nobody x held_by is = cc
held_is F b h x held_by is = cc

pub held_from : (F : Farm) (b : BoardRow) (h : Holder) → hold_of F h ≡ Some (shown_hold b) → IsHeldBy F b h
held_from F b Holder.Nobody is = cc
held_from F b h is = is

-- the board after its holder's row has changed: in nobody's hands, or in the same ones
abbrev pub IsLeft : Option Hold → BoardRow → Type 0
IsLeft None b = (b.holder ≡ Holder.Nobody) × (b.state ≡ State.Idle)
IsLeft (Some x) b = x ≡ shown_hold b

-- what a changed row held and holds: still nothing, or else its board has been left
pub record Leaves (old new : Option Hold) (g : BoardRow → BoardRow) : Type 0 where
  pub none : old ≡ None → new ≡ None
  pub left : (b : BoardRow) → old ≡ Some (shown_hold b) → IsLeft new (g b)

-- the same of a row that has changed or not
pub record IsMoved (moved : Bool) (old new : Option Hold) (g : BoardRow → BoardRow) : Type 0 where
  pub stays : moved ≡ false → new ≡ old
  pub leaves : moved ≡ true → Leaves old new g

pub not_moved : (o : Option Hold) (g : BoardRow → BoardRow) → IsMoved false o o g
not_moved o g = record { stays = λ _. refl; leaves = λ e. absurd (false≢true e) }

-- a row is found as before, and changed where it passes
pub moved_row : {R : Type 0} (held : R → Option Hold) (test : R → Bool) (f : R → R) (g : BoardRow → BoardRow) (o : Option R)
    → ((r : R) → o ≡ Some r → test r ≡ true → Leaves (held r) (held (f r)) g)
    → IsMoved (option_map_or test o false) (option_map_or held o None) (option_map_or held (option_map (changed test f) o) None) g
moved_row held test f g None leaves = not_moved None g
moved_row held test f g (Some r) leaves = grind arith

-- some holders' rows change, and the boards that they hold
module _ (F G : Farm) (moved : Holder → Bool) (g : BoardRow → BoardRow) where
  pub record Regives : Type 0 where
    pub nobody : moved Holder.Nobody ≡ false
    pub name : (b : BoardRow) → (g b).name ≡ b.name
    pub boards : (name : List ℕ) → board_of G name ≡ option_map (λ b. cond (moved b.holder) (g b) b) (board_of F name)
    pub rows : (h : Holder) → IsMoved (moved h) (hold_of F h) (hold_of G h) g

  held_by_left : (b : BoardRow) (h : Holder) (o : Option Hold) → hold_of G h ≡ o → b.holder ≡ h → IsLeft o (g b) → IsHeldBy G (g b) (g b).holder
  held_by_left b h None is mine left = subst (λ k. IsHeldBy G (g b) k) (sym left.0) left.1
  held_by_left b h (Some x) is mine left =
      let same : (g b).holder ≡ h = sym (ap (λ (y : Hold). y.holder) left) ∙ holder_is G h x is in
      subst (λ k. IsHeldBy G (g b) k) (sym same) (held_from G (g b) h (is ∙ ap Some left))

  held_by_stays : Regives → (b : BoardRow) (h : Holder) → moved h ≡ false → IsHeldBy F b h → IsHeldBy G b h
  held_by_stays re b Holder.Nobody apart held_by = held_by
  held_by_stays re b h apart held_by = (re.rows h).stays apart ∙ held_by

  held_by_moved : Regives → (b : BoardRow) (h : Holder) → moved h ≡ true → b.holder ≡ h → IsHeldBy F b h → IsHeldBy G (g b) (g b).holder
  held_by_moved re b Holder.Nobody so mine held_by = absurd (true≢false (sym so ∙ re.nobody))
  held_by_moved re b h so mine held_by = held_by_left b h (hold_of G h) refl mine (((re.rows h).leaves so).left b held_by)

  held_by_after : Regives → (b : BoardRow) → IsHeldBy F b b.holder → IsHeldBy G (cond (moved b.holder) (g b) b) (cond (moved b.holder) (g b) b).holder
  held_by_after re b held_by =
      by_cases (λ c. IsHeldBy G c c.holder) (moved b.holder) (g b) b (λ so. held_by_moved re b b.holder so refl held_by)
      (λ apart. held_by_stays re b b.holder apart held_by)

  rows_after : Regives → IsHeldByKeys F → (h : Holder) (x : Hold) → hold_of G h ≡ Some x → IsSomeAnd (board_of G x.board) (λ b. b.holder ≡ h)
  rows_after re held_board h x is = by (moved h) refl
    where
      -- a board that h holds in F
      there : (y : Hold) → hold_of F h ≡ Some y → (o : Option BoardRow) → board_of F y.board ≡ o → IsSomeAnd o (λ b. b.holder ≡ h)
          → (b : BoardRow) × (board_of F y.board ≡ Some b) × (b.holder ≡ h) × (y ≡ shown_hold b)
      there y was None found held_by = absurd held_by
      there y was (Some b) found held_by = (
        b,
        found,
        held_by,
        held_is F b h y
            (subst (IsHeldBy F b) held_by (found_has (λ b. IsHeldBy F b b.holder) (λ r. bytes_eq r.name y.board) b F.boards held_board.boards found)) was,
      )

      by_hold : moved h ≡ true → (o : Option Hold) → hold_of F h ≡ o → IsSomeAnd (board_of G x.board) (λ b. b.holder ≡ h)
      by_hold so None was = let n : hold_of G h ≡ None = ((re.rows h).leaves so).none was in cc
      by_hold so (Some y) was =
          let t = there y was (board_of F y.board) refl (held_board.rows h y was) in
          let b : BoardRow = t.0 in
          let left : x ≡ shown_hold (g b) = subst (λ o. IsLeft o (g b)) is (((re.rows h).leaves so).left b (was ∙ ap Some t.3)) in
          let here : x.board ≡ y.board = ap (λ (z : Hold). z.board) left ∙ re.name b ∙ sym (ap (λ (z : Hold). z.board) t.3) in
          let found : board_of G x.board ≡ Some (g b) =
          ap (board_of G) here ∙ re.boards y.board ∙ ap (option_map (λ b. cond (moved b.holder) (g b) b)) t.1
          ∙ ap (λ v. Some (cond v (g b) b)) (ap moved t.2 ∙ so) in
          rw found (sym (ap (λ (z : Hold). z.holder) left) ∙ holder_is G h x is)

      by : (v : Bool) → moved h ≡ v → IsSomeAnd (board_of G x.board) (λ b. b.holder ≡ h)
      by true so = by_hold so (hold_of F h) refl
      by false apart =
          let was : hold_of F h ≡ Some x = sym ((re.rows h).stays apart) ∙ is in
          let t = there x was (board_of F x.board) refl (held_board.rows h x was) in
          let b : BoardRow = t.0 in
          let found : board_of G x.board ≡ Some b =
          re.boards x.board ∙ ap (option_map (λ b. cond (moved b.holder) (g b) b)) t.1 ∙ ap (λ v. Some (cond v (g b) b)) (ap moved t.2 ∙ apart) in
          rw found t.2

  pub IsHeldByKeys-regiven : Regives → G.boards ≡ map (λ b. cond (moved b.holder) (g b) b) F.boards → IsHeldByKeys F → IsHeldByKeys G
  IsHeldByKeys-regiven re same held_board = record {
    boards = subst (AllByRecursion (λ b. IsHeldBy G b b.holder)) (sym same)
        (AllByRecursion-map (λ b. IsHeldBy F b b.holder) (λ b. IsHeldBy G b b.holder) (λ b. cond (moved b.holder) (g b) b)
        (held_by_after re) F.boards held_board.boards);
    rows = rows_after re held_board;
  }

-- ---- a board that nobody holds is given to a row that holds none

module _ (F G : Farm) (h0 : Holder) (b0 : BoardRow) where
  -- the boards after the gift
  abbrev pub given_board : BoardRow → BoardRow
  given_board c = cond (bytes_eq c.name b0.name) (held_board h0 State.Reserved c) c

  pub record IsGift : Type 0 where
    pub free : b0.holder ≡ Holder.Nobody
    pub there : board_of F b0.name ≡ Some b0
    pub nothing : hold_of F h0 ≡ None
    pub gets : hold_of G h0 ≡ Some (record { board = b0.name; holder = h0; state = State.Reserved })
    pub stays : (h : Holder) → (hold_of G h ≡ hold_of F h) ⊎ (h ≡ h0)
    pub boards : (name : List ℕ) → board_of G name ≡ option_map given_board (board_of F name)
    pub rows : G.boards ≡ map given_board F.boards

  stays_by : (h : Holder) (x : Option Hold) → (hold_of G h ≡ hold_of F h) ⊎ (h ≡ h0) → hold_of F h0 ≡ None → (y : Hold) → hold_of F h ≡ Some y
      → hold_of G h ≡ Some y
  stays_by h x (inl same) nothing y is = same ∙ is
  stays_by h x (inr mine) nothing y is = let e : hold_of F h ≡ hold_of F h0 = ap (hold_of F) mine in cc

  held_by_kept : IsGift → (c : BoardRow) (h : Holder) → IsHeldBy F c h → IsHeldBy G c h
  held_by_kept gift c Holder.Nobody held_by = held_by
  held_by_kept gift c h held_by = stays_by h None (gift.stays h) gift.nothing (shown_hold c) held_by

  held_by_given : IsGift → (c : BoardRow) → IsHeldBy F c c.holder → IsHeldBy G (given_board c) (given_board c).holder
  held_by_given gift c held_by =
      by_cases (λ (d : BoardRow). IsHeldBy G d d.holder) (bytes_eq c.name b0.name) (held_board h0 State.Reserved c) c
      (λ so. held_from G (held_board h0 State.Reserved c) h0
      (gift.gets ∙ ap (λ n. Some (record { board = n; holder = h0; state = State.Reserved })) (sym ((bytes_eq-Decides c.name b0.name).0 so))))
      (λ _. held_by_kept gift c c.holder held_by)

  rows_given : IsGift → IsHeldByKeys F → (h : Holder) (x : Hold) → hold_of G h ≡ Some x → IsSomeAnd (board_of G x.board) (λ b. b.holder ≡ h)
  rows_given gift held_in h x is = grind (arith, bytes_eq-Decides, found_passes, gift.stays h, gift.boards x.board, held_in.rows h x, gift.boards b0.name)

  pub IsHeldByKeys-given : IsGift → IsHeldByKeys F → IsHeldByKeys G
  IsHeldByKeys-given gift held_in = record {
    boards = subst (AllByRecursion (λ b. IsHeldBy G b b.holder)) (sym gift.rows)
        (AllByRecursion-map (λ b. IsHeldBy F b b.holder) (λ b. IsHeldBy G b b.holder) given_board (held_by_given gift) F.boards held_in.boards);
    rows = rows_given gift held_in;
  }
