-- Holders found by keys say that no board is held twice, and that each says who holds it; and back.
use Rattle.std.proofs.Common.{[], ◌<◌, ◌==◌, ◌∙◌, ◌∷◌, ◌≡◌, ◌≢◌, IsSome, IsSomeAnd, List, None, Option, Some, ap, arith, inl, inr, refl, subst, sym, unwrap_or, ℕ}
use Rattle.farm_sound.proofs.Names.{AllByRecursion, AllByRecursion-weaker, board_of, BoardRow, bytes_eq, bytes_eq-Decides, cons_option, false≢true, Farm}
use Rattle.farm_sound.proofs.Names.{filter_map, find, found_has, found_passes, Holder, job_of, JobRow, Less, option_map_or, Ordering}
use Rattle.std.specs.List.Sorted.{IsStrictlySortedBy}
use Rattle.farm_sound.proofs.Names.{ranked, res_of, ResRow, State}
use Rattle.farm_types.specs.Names.{EachTwo, held_board, Hold, hold, hold_of, holds, IsAmong, IsBoardOf, IsHeldBy, IsHeldByKeys, IsHeldOnce, IsJobRow, IsResRow}
use Rattle.farm_types.specs.Names.{IsSteady, job_cmp, job_gives, job_hold, no_hold, res_cmp, res_gives, res_hold, shown_hold}
use Rattle.farm_sound.proofs.Held.{held_from, held_is, hold_names, holder_is, row_of_job, row_of_res}
use Rattle.farm_sound.proofs.Lists.{all_join, among_append, among_found, among_has, among_none, each_append, each_weaker, each_with}
use Rattle.farm_sound.proofs.Own.{own_board, own_job, own_res, text_itself}
use Rattle.farm_sound.proofs.Where.{AllByRecursion-both}

-- ---- lists

filter_map_all : {R S : Type 0} (f : R → Option S) (P : S → Type 0) (rows : List R) → AllByRecursion (λ r. (x : S) → f r ≡ Some x → P x) rows
    → AllByRecursion P (filter_map f rows)
filter_map_all f P [] all = tt
filter_map_all {R = R} {S = S} f P (r ∷ rows) all = grind (arith, filter_map_all f P rows all.1)

filter_map_two : {R S : Type 0} (cmp : R → R → Ordering) (f : R → Option S) (P : S → S → Type 0)
    → ((a b : R) (x y : S) → cmp a b ≡ Less → f a ≡ Some x → f b ≡ Some y → P x y) → (rows : List R) → IsStrictlySortedBy cmp rows
    → EachTwo P (filter_map f rows)
unfolding IsStrictlySortedBy
filter_map_two cmp f P two [] sorted = tt
filter_map_two {R = R} {S = S} cmp f P two (r ∷ rows) sorted = by (f r) refl (filter_map_two cmp f P two rows sorted.1)
  where
    by : (o : Option S) → f r ≡ o → EachTwo P (filter_map f rows) → EachTwo P (cons_option o (filter_map f rows))
    by None is rest = rest
    by (Some x) is rest = (filter_map_all f (P x) rows (AllByRecursion-weaker (λ b less y. two r b x y less is) rows sorted.0), rest)

filter_map_has : {R S : Type 0} (f : R → Option S) (rows : List R) → AllByRecursion (λ r. (x : S) → f r ≡ Some x → IsAmong x (filter_map f rows)) rows
filter_map_has f [] = tt
filter_map_has {R = R} {S = S} f (r ∷ rows) = grind (arith, filter_map_has f rows, AllByRecursion-weaker)

-- two of a list that stand to each other in no way are one
two_same : {S : Type 0} (key : S → List ℕ) (x y : S) (xs : List S) → EachTwo (λ a b. key a ≢ key b) xs → IsAmong x xs → IsAmong y xs → key x ≡ key y → x ≡ y
two_same key x y [] two ax ay same = absurd ax
two_same key x y (z ∷ xs) two (inl p) (inl q) same = p ∙ sym q
two_same key x y (z ∷ xs) two (inl p) (inr q) same = absurd (among_has (λ b. key z ≢ key b) y xs two.0 q (ap key (sym p) ∙ same))
two_same key x y (z ∷ xs) two (inr p) (inl q) same = absurd (among_has (λ b. key z ≢ key b) x xs two.0 p (ap key (sym q) ∙ sym same))
two_same key x y (z ∷ xs) two (inr p) (inr q) same = two_same key x y xs two.1 p q same

-- ---- the holds of a farm

module _ (F : Farm) (steady : IsSteady F) where
  job_says : (j : JobRow) → job_of F j.number ≡ Some j → (x : Hold) → job_hold j ≡ Some x → hold_of F x.holder ≡ Some x
  job_says j own x is = ap (hold_of F) (hold_names (Holder.Job j.number) j.board (job_gives j.state) x is) ∙ ap (λ o. option_map_or job_hold o None) own ∙ is

  res_says : (r : ResRow) → res_of F r.number ≡ Some r → (x : Hold) → res_hold r ≡ Some x → hold_of F x.holder ≡ Some x
  res_says r own x is = ap (hold_of F) (hold_names (Holder.Res r.number) r.board (res_gives r.state) x is) ∙ ap (λ o. option_map_or res_hold o None) own ∙ is

  -- each hold is its holder's
  own_holds : AllByRecursion (λ x. hold_of F x.holder ≡ Some x) (holds F)
  own_holds = all_join (λ x. hold_of F x.holder ≡ Some x) (filter_map job_hold F.jobs) (filter_map res_hold F.reservations)
      (filter_map_all job_hold (λ x. hold_of F x.holder ≡ Some x) F.jobs (AllByRecursion-weaker job_says F.jobs (own_job F steady)))
      (filter_map_all res_hold (λ x. hold_of F x.holder ≡ Some x) F.reservations (AllByRecursion-weaker res_says F.reservations (own_res F steady)))

  -- no two have one holder
  two_holders : EachTwo (λ x y. x.holder ≢ y.holder) (holds F)
  two_holders = each_append (λ x y. x.holder ≢ y.holder) (filter_map job_hold F.jobs) (filter_map res_hold F.reservations)
      (filter_map_two job_cmp job_hold (λ x y. x.holder ≢ y.holder)
      (λ a b x y less ax by_b same.
      let low : a.number < b.number = ranked a.number b.number Less (sym less) in
      let e : Holder.Job a.number ≡ Holder.Job b.number =
      sym (hold_names (Holder.Job a.number) a.board (job_gives a.state) x ax) ∙ same
      ∙ hold_names (Holder.Job b.number) b.board (job_gives b.state) y by_b in
      let n : a.number ≡ b.number = cc in
      absurd (omega (arith, low, n))) F.jobs steady.jobs_sorted)
      (filter_map_two res_cmp res_hold (λ x y. x.holder ≢ y.holder)
      (λ a b x y less ax by_b same.
      let low : a.number < b.number = ranked a.number b.number Less (sym less) in
      let e : Holder.Res a.number ≡ Holder.Res b.number =
      sym (hold_names (Holder.Res a.number) a.board (res_gives a.state) x ax) ∙ same
      ∙ hold_names (Holder.Res b.number) b.board (res_gives b.state) y by_b in
      let n : a.number ≡ b.number = cc in
      absurd (omega (arith, low, n))) F.reservations steady.reservations_sorted)
      (filter_map_all job_hold (λ x. AllByRecursion (λ y. x.holder ≢ y.holder) (filter_map res_hold F.reservations)) F.jobs
      (AllByRecursion-weaker (λ j _ x ax. filter_map_all res_hold (λ y. x.holder ≢ y.holder) F.reservations
      (AllByRecursion-weaker (λ r _ y ry same.
      let e : Holder.Job j.number ≡ Holder.Res r.number =
      sym (hold_names (Holder.Job j.number) j.board (job_gives j.state) x ax) ∙ same
      ∙ hold_names (Holder.Res r.number) r.board (res_gives r.state) y ry in cc)
      F.reservations (own_res F steady))) F.jobs (own_job F steady)))

  -- what is held is in the list
  among_holds : (h : Holder) (x : Hold) → hold_of F h ≡ Some x → IsAmong x (holds F)
  among_holds Holder.Nobody x is = cc
  among_holds (Holder.Job n) x is =
      let j = row_of_job F n x is in
      among_append x (filter_map job_hold F.jobs) (filter_map res_hold F.reservations)
      (inl (found_has (λ k. (y : Hold) → job_hold k ≡ Some y → IsAmong y (filter_map job_hold F.jobs)) (λ r. r.number == n) j.0 F.jobs
      (filter_map_has job_hold F.jobs) j.1 x j.3))
  among_holds (Holder.Res n) x is =
      let r = row_of_res F n x is in
      among_append x (filter_map job_hold F.jobs) (filter_map res_hold F.reservations)
      (inr (found_has (λ k. (y : Hold) → res_hold k ≡ Some y → IsAmong y (filter_map res_hold F.reservations)) (λ q. q.number == n) r.0 F.reservations
      (filter_map_has res_hold F.reservations) r.1 x r.3))

  -- ---- by keys, so once

  -- the holder of a held board is its row
  holder_by_keys : IsHeldByKeys F → (x : Hold) → hold_of F x.holder ≡ Some x → (b : BoardRow) → board_of F x.board ≡ Some b → b.holder ≡ x.holder
  holder_by_keys held_board x own b there = rw there at (held_board.rows x.holder x own)

  one_holder : IsHeldByKeys F → (x y : Hold) → hold_of F x.holder ≡ Some x → hold_of F y.holder ≡ Some y → x.board ≡ y.board → x.holder ≡ y.holder
  one_holder held_board x y ox oy same = grind (arith, held_board.rows x.holder x ox, held_board.rows y.holder y oy)

  shown_by_keys : IsHeldByKeys F → (b : BoardRow) → board_of F b.name ≡ Some b → IsHeldBy F b b.holder
      → shown_hold b ≡ unwrap_or (find (λ h. bytes_eq h.board b.name) (holds F)) (no_hold b.name)
  shown_by_keys held_board b own held_by = by (find (λ h. bytes_eq h.board b.name) (holds F)) refl
    where
      none : (h : Holder) → b.holder ≡ h → IsHeldBy F b h → find (λ x. bytes_eq x.board b.name) (holds F) ≡ None → shown_hold b ≡ no_hold b.name
      none Holder.Nobody at held_by is = λ i. record { board = b.name; holder = at i; state = held_by i }
      none h at held_by is =
          absurd (among_none (λ x. bytes_eq x.board b.name) (shown_hold b) (holds F) (among_holds h (shown_hold b) held_by) (text_itself b.name) is)

      by : (o : Option Hold) → find (λ h. bytes_eq h.board b.name) (holds F) ≡ o → shown_hold b ≡ unwrap_or o (no_hold b.name)
      by None is = none b.holder refl held_by is
      by (Some x) is =
          let ox : hold_of F x.holder ≡ Some x = found_has (λ y. hold_of F y.holder ≡ Some y) (λ y. bytes_eq y.board b.name) x (holds F) own_holds is in
          let at : x.board ≡ b.name = (bytes_eq-Decides x.board b.name).0 (found_passes (λ (y : Hold). bytes_eq y.board b.name) x (holds F) is) in
          let mine : b.holder ≡ x.holder = holder_by_keys held_board x ox b (ap (board_of F) at ∙ own) in
          sym (held_is F b b.holder x held_by (ap (hold_of F) mine ∙ ox))

  pub IsHeldOnce-from_keys : IsHeldByKeys F → IsHeldOnce F
  IsHeldOnce-from_keys held_board = record {
    once = each_weaker (λ x y. (x.holder ≢ y.holder) × (hold_of F x.holder ≡ Some x) × (hold_of F y.holder ≡ Some y)) (λ x y. x.board ≢ y.board)
        (λ x y three same. three.0 (one_holder held_board x y three.1 three.2 same)) (holds F)
        (each_with (λ x y. x.holder ≢ y.holder) (λ x. hold_of F x.holder ≡ Some x) (holds F) two_holders own_holds);
    shown = AllByRecursion-weaker (λ b two. shown_by_keys held_board b two.0 two.1) F.boards
        (AllByRecursion-both (λ b. board_of F b.name ≡ Some b) (λ b. IsHeldBy F b b.holder) F.boards (own_board F steady) held_board.boards);
  }

  -- ---- once, so by keys

  held_by_shown : (b : BoardRow) → shown_hold b ≡ unwrap_or (find (λ h. bytes_eq h.board b.name) (holds F)) (no_hold b.name) → IsHeldBy F b b.holder
  held_by_shown b shown = by (find (λ h. bytes_eq h.board b.name) (holds F)) refl shown
    where
      by : (o : Option Hold) → find (λ h. bytes_eq h.board b.name) (holds F) ≡ o → shown_hold b ≡ unwrap_or o (no_hold b.name) → IsHeldBy F b b.holder
      by None is shown = subst (IsHeldBy F b) (sym (ap (λ (x : Hold). x.holder) shown)) (ap (λ (x : Hold). x.state) shown)
      by (Some x) is shown =
          let ox : hold_of F x.holder ≡ Some x = found_has (λ y. hold_of F y.holder ≡ Some y) (λ y. bytes_eq y.board b.name) x (holds F) own_holds is in
          held_from F b b.holder (ap (hold_of F) (ap (λ (y : Hold). y.holder) shown) ∙ ox ∙ ap Some (sym shown))

  hold_board : (h : Holder) (board : Option (List ℕ)) (state : Option State) (x : Hold) → hold h board state ≡ Some x → IsBoardOf F board
      → IsSome (board_of F x.board)
  hold_board h None state x is there = cc
  hold_board h (Some name) None x is there = cc
  hold_board h (Some name) (Some state) x is there = let e : record { board = name; holder = h; state = state } ≡ x = cc in
      subst (λ (y : Hold). IsSome (board_of F y.board)) e there

  board_there : (h : Holder) (x : Hold) → hold_of F h ≡ Some x → IsSome (board_of F x.board)
  board_there Holder.Nobody x is = cc
  board_there (Holder.Job n) x is =
      let j = row_of_job F n x is in
      hold_board (Holder.Job j.0.number) j.0.board (job_gives j.0.state) x j.3 (found_has (IsJobRow F) (λ r. r.number == n) j.0 F.jobs steady.jobs j.1).board
  board_there (Holder.Res n) x is =
      let r = row_of_res F n x is in
      hold_board (Holder.Res r.0.number) r.0.board (res_gives r.0.state) x r.3
      (found_has (IsResRow F) (λ q. q.number == n) r.0 F.reservations steady.reservations r.1).board

  keys_rows : IsHeldOnce F → (h : Holder) (x : Hold) → hold_of F h ≡ Some x → x.holder ≡ h → IsSomeAnd (board_of F x.board) (λ b. b.holder ≡ h)
  keys_rows held_board h x is mine = by (board_of F x.board) refl (board_there h x is)
    where
      found : (b : BoardRow) → b.name ≡ x.board → (o : Option Hold) → find (λ y. bytes_eq y.board b.name) (holds F) ≡ o
          → shown_hold b ≡ unwrap_or o (no_hold b.name) → b.holder ≡ h
      found b named None none shown =
          absurd (among_none (λ y. bytes_eq y.board b.name) x (holds F) (among_holds h x is) ((bytes_eq-Decides x.board b.name).1 (sym named)) none)
      found b named (Some y) at shown =
          let same : y.board ≡ x.board = (bytes_eq-Decides y.board b.name).0 (found_passes (λ (z : Hold). bytes_eq z.board b.name) y (holds F) at) ∙ named in
          let e : y ≡ x = two_same (λ z. z.board) y x (holds F) held_board.once (among_found (λ z. bytes_eq z.board b.name) y (holds F) at)
          (among_holds h x is) same in
          ap (λ (z : Hold). z.holder) (shown ∙ e) ∙ mine

      by : (o : Option BoardRow) → board_of F x.board ≡ o → IsSome o → IsSomeAnd o (λ b. b.holder ≡ h)
      by None there some = absurd (false≢true some)
      by (Some b) there some =
          found b ((bytes_eq-Decides b.name x.board).0 (found_passes (λ (c : BoardRow). bytes_eq c.name x.board) b F.boards there))
          (find (λ y. bytes_eq y.board b.name) (holds F)) refl
          (found_has (λ b. shown_hold b ≡ unwrap_or (find (λ h. bytes_eq h.board b.name) (holds F)) (no_hold b.name))
          (λ c. bytes_eq c.name x.board) b F.boards held_board.shown there)

  pub IsHeldByKeys-from_once : IsHeldOnce F → IsHeldByKeys F
  IsHeldByKeys-from_once held_board = record {
    boards = AllByRecursion-weaker held_by_shown F.boards held_board.shown;
    rows = λ h x is. keys_rows held_board h x is (holder_is F h x is);
  }
