-- Who holds which board: row by row, and by keys.
use Rattle.std.proofs.Common.{◌==◌, ◌∙◌, ◌≡◌, IfSome, IsSome, IsSomeAnd, List, None, Option, Some, ap, refl, subst, sym, ℕ}
use Rattle.farm_sound.proofs.Names.{AllByRecursion, AllByRecursion-weaker, board_of, BoardRow, false≢true, Farm, found_has, found_passes, Holder, job_of}
use Rattle.farm_sound.proofs.Names.{option_map_or, res_of, State}
use Rattle.farm_types.specs.Names.{held_board, Hold, hold, hold_of, IsHeldBy, IsHeldByKeys, IsJobRow, IsResRow, job_gives, job_hold, res_gives, res_hold}
use Rattle.farm_types.specs.Names.{shown_hold}
use Rattle.farm_sound.specs.ByRows.{IsNamedBy, IsShown, IsShownOfJob, IsShownOfRes}
use Rattle.farm_sound.proofs.Held.{row_of_job, row_of_res}
use Rattle.farm_sound.proofs.Tests.{same_number}
use Rattle.farm_sound.proofs.Where.{AllByRecursion-both}

-- a row's hold is made of its board and of the state that it gives
record IsHold (holder : Holder) (name : Option (List ℕ)) (given : Option State) (x : Hold) : Type 0 where
  pub board : name ≡ Some x.board
  pub by : holder ≡ x.holder
  pub state : given ≡ Some x.state

is_hold : (holder : Holder) (name : Option (List ℕ)) (given : Option State) (x : Hold) → hold holder name given ≡ Some x → IsHold holder name given x
is_hold holder None given x e = cc
is_hold holder (Some n) None x e = cc
is_hold holder (Some n) (Some s) x e =
    let same : record { board = n; holder = holder; state = s } ≡ x = cc in
    record { board = ap (λ (h : Hold). Some h.board) same; by = ap (λ (h : Hold). h.holder) same; state = ap (λ (h : Hold). Some h.state) same }

hold_from : (holder : Holder) (name : Option (List ℕ)) (given : Option State) (x : Hold) → name ≡ Some x.board → holder ≡ x.holder → given ≡ Some x.state
    → hold holder name given ≡ Some x
hold_from holder name given x board by state = λ i. hold (by i) (board i) (state i)

-- the option that is there
some_and : {A : Type 0} {P : A → Type 0} (o : Option A) → IsSomeAnd o P → (a : A) × (o ≡ Some a) × P a
some_and None is = absurd is
some_and (Some a) is = (a, refl, is)

module _ (F : Farm) where
  -- ---- boards

  held_from_named : (b : BoardRow) (holder : Holder) → b.holder ≡ holder → IsNamedBy F b holder → IsHeldBy F b holder
  held_from_named b Holder.Nobody e named = named
  held_from_named b (Holder.Job n) e named =
      let j = some_and {P = λ j. (j.board ≡ Some b.name) × (job_gives j.state ≡ Some b.state)} (job_of F n) named in
      let number : j.0.number ≡ n = same_number j.0.number n (found_passes (λ r. r.number == n) j.0 F.jobs j.1) in
      ap (λ o. option_map_or job_hold o None) j.1
      ∙ hold_from (Holder.Job j.0.number) j.0.board (job_gives j.0.state) (shown_hold b) j.2.0 (ap Holder.Job number ∙ sym e) j.2.1
  held_from_named b (Holder.Res n) e named =
      let r = some_and {P = λ r. (r.board ≡ Some b.name) × (res_gives r.state ≡ Some b.state)} (res_of F n) named in
      let number : r.0.number ≡ n = same_number r.0.number n (found_passes (λ q. q.number == n) r.0 F.reservations r.1) in
      ap (λ o. option_map_or res_hold o None) r.1
      ∙ hold_from (Holder.Res r.0.number) r.0.board (res_gives r.0.state) (shown_hold b) r.2.0 (ap Holder.Res number ∙ sym e) r.2.1

  named_from_held : (b : BoardRow) (holder : Holder) → IsHeldBy F b holder → IsNamedBy F b holder
  named_from_held b Holder.Nobody held_board = held_board
  named_from_held b (Holder.Job n) held_board =
      let j = row_of_job F n (shown_hold b) held_board in
      let is = is_hold (Holder.Job j.0.number) j.0.board (job_gives j.0.state) (shown_hold b) j.3 in
      rw j.1 (is.board, is.state)
  named_from_held b (Holder.Res n) held_board =
      let r = row_of_res F n (shown_hold b) held_board in
      let is = is_hold (Holder.Res r.0.number) r.0.board (res_gives r.0.state) (shown_hold b) r.3 in
      rw r.1 (is.board, is.state)

  -- ---- jobs and reservations

  -- the board of a hold says so, where that of its row does
  shown_of : (board : Option (List ℕ)) (given : Option State) (holder named : Holder) (x : Hold) → IfSome given (λ _. IsShown F board holder)
      → IsHold holder board given x → holder ≡ named → IsSomeAnd (board_of F x.board) (λ b. b.holder ≡ named)
  shown_of board given holder named x shown is same =
      let there : IsShown F board holder = subst (λ o. IfSome o (λ _. IsShown F board holder)) is.state shown in
      subst (λ h. IsSomeAnd (board_of F x.board) (λ b. b.holder ≡ h)) same (subst (λ o. IsShown F o holder) is.board there)

  rows_from_shown : AllByRecursion (IsShownOfJob F) F.jobs → AllByRecursion (IsShownOfRes F) F.reservations
      → (h : Holder) (x : Hold) → hold_of F h ≡ Some x → IsSomeAnd (board_of F x.board) (λ b. b.holder ≡ h)
  rows_from_shown jobs reservations Holder.Nobody x e = cc
  rows_from_shown jobs reservations (Holder.Job n) x e =
      let j = row_of_job F n x e in
      shown_of j.0.board (job_gives j.0.state) (Holder.Job j.0.number) (Holder.Job n) x (found_has (IsShownOfJob F) (λ r. r.number == n) j.0 F.jobs jobs j.1)
      (is_hold (Holder.Job j.0.number) j.0.board (job_gives j.0.state) x j.3) (ap Holder.Job j.2)
  rows_from_shown jobs reservations (Holder.Res n) x e =
      let r = row_of_res F n x e in
      shown_of r.0.board (res_gives r.0.state) (Holder.Res r.0.number) (Holder.Res n) x
      (found_has (IsShownOfRes F) (λ q. q.number == n) r.0 F.reservations reservations r.1)
      (is_hold (Holder.Res r.0.number) r.0.board (res_gives r.0.state) x r.3) (ap Holder.Res r.2)

  pub held_from_shown : AllByRecursion (λ b. IsNamedBy F b b.holder) F.boards → AllByRecursion (IsShownOfJob F) F.jobs
      → AllByRecursion (IsShownOfRes F) F.reservations
      → IsHeldByKeys F
  held_from_shown boards jobs reservations = record {
    boards = AllByRecursion-weaker (λ b named. held_from_named b b.holder refl named) F.boards boards;
    rows = rows_from_shown jobs reservations;
  }

  pub named_from_keys : IsHeldByKeys F → AllByRecursion (λ b. IsNamedBy F b b.holder) F.boards
  named_from_keys held_board = AllByRecursion-weaker (λ b held_by. named_from_held b b.holder held_by) F.boards held_board.boards

  -- the board of a row that gives a state says so
  shown_by : (h : Holder) (board : Option (List ℕ)) (given : Option State) → IsHeldByKeys F → hold_of F h ≡ hold h board given → (IsSome given → IsSome board)
      → IfSome given (λ _. IsShown F board h)
  shown_by h board None held_board is some = tt
  shown_by h None (Some s) held_board is some = absurd (false≢true (some refl))
  shown_by h (Some name) (Some s) held_board is some = held_board.rows h (record { board = name; holder = h; state = s }) is

  pub jobs_from_keys : IsHeldByKeys F → AllByRecursion (λ j. job_of F j.number ≡ Some j) F.jobs → AllByRecursion (IsJobRow F) F.jobs
      → AllByRecursion (IsShownOfJob F) F.jobs
  jobs_from_keys held_board own rows =
      AllByRecursion-weaker (λ j two. shown_by (Holder.Job j.number) j.board (job_gives j.state) held_board
      (ap (λ o. option_map_or job_hold o None) two.0) two.1.holds) F.jobs
      (AllByRecursion-both (λ j. job_of F j.number ≡ Some j) (IsJobRow F) F.jobs own rows)

  pub reservations_from_keys : IsHeldByKeys F → AllByRecursion (λ r. res_of F r.number ≡ Some r) F.reservations → AllByRecursion (IsResRow F) F.reservations
      → AllByRecursion (IsShownOfRes F) F.reservations
  reservations_from_keys held_board own rows =
      AllByRecursion-weaker (λ r two. shown_by (Holder.Res r.number) r.board (res_gives r.state) held_board
      (ap (λ o. option_map_or res_hold o None) two.0) two.1.holds) F.reservations
      (AllByRecursion-both (λ r. res_of F r.number ≡ Some r) (IsResRow F) F.reservations own rows)
