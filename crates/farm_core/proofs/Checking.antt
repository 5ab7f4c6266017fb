-- The due boards are checked in their places.
use Rattle.std.proofs.Common.{[], ◌≡◌, ℕ, zero, suc, ◌+◌, ◌<◌, ◌≤◌, List, ◌∷◌, length, drop, get_or, Bool, true, false, cond, ◌&&◌, ◌||◌, refl, sym, ap}
use Rattle.std.proofs.Common.{◌∙◌, arith, add-one}
use Rattle.farm_core.proofs.Names.{AllByRecursion, BoardRow, bytes_eq, Check, fold, Holder, is_eq, IsStrictlySortedBy, Less, list_any}
use Rattle.farm_core.proofs.Names.{State, TypeRow}
use Rattle.std.specs.List.{filter}
use Rattle.std.specs.Cmp.Lexicographic.{nat_list_eq_equiv}
use Rattle.std.proofs.lemmas.Map.Text.{is_eq-slice_cmp}
use Rattle.farm_types.specs.Names.{board_cmp, change_where, check_job, check_of, check_one, checks, Farm, has_room, held_board, is_checked as checks_any}
use Rattle.farm_types.specs.Names.{is_due, is_due_by, is_nobody, job_cmp, put}

-- the boards from a place on are still to be checked
abbrev pub checks_from : ℕ → ℕ → Farm → Farm
checks_from t at F = fold check_one F (filter (is_due F t) (drop at F.boards))

others_same : (b : BoardRow) (f : BoardRow → BoardRow) (rows : List BoardRow) → AllByRecursion (λ c. board_cmp b c ≡ Less) rows
    → change_where (λ c. bytes_eq c.name b.name) f rows ≡ rows
others_same b f [] all = refl
others_same b f (c ∷ rows) all =
    let other : bytes_eq c.name b.name ≡ false = nat_list_eq_equiv.symm c.name b.name ∙ sym (is_eq-slice_cmp b.name c.name) ∙ ap is_eq all.0 in
    rw other (ap (λ rows. c ∷ rows) (others_same b f rows all.1))

-- the boards behind one that is changed stay
behind_same : (rows : List BoardRow) (at : ℕ) (b : BoardRow) (f : BoardRow → BoardRow) → IsStrictlySortedBy board_cmp rows → at < length rows → b ≡ get_or rows at b
    → drop (suc at) (change_where (λ c. bytes_eq c.name b.name) f rows) ≡ drop (suc at) rows
unfolding IsStrictlySortedBy
behind_same [] at b f sorted low is = absurd (omega arith)
behind_same (r ∷ rows) zero b f sorted low is =
    ap (λ (k : BoardRow). change_where (λ c. bytes_eq c.name k.name) f rows) is ∙ others_same r f rows sorted.0
behind_same (r ∷ rows) (suc at) b f sorted low is = behind_same rows at b f sorted.1 (omega arith) is

drop_at : (rows : List BoardRow) (at : ℕ) (b : BoardRow) → at < length rows → b ≡ get_or rows at b → drop at rows ≡ b ∷ drop (suc at) rows
drop_at [] at b low is = absurd (omega arith)
drop_at (r ∷ rows) zero b low is = ap (λ k. k ∷ rows) (sym is)
drop_at (r ∷ rows) (suc at) b low is = drop_at rows at b (omega arith) is

change_long : (test : BoardRow → Bool) (f : BoardRow → BoardRow) (rows : List BoardRow) → length (change_where test f rows) ≡ length rows
change_long test f [] = refl
change_long test f (r ∷ rows) = ap suc (change_long test f rows)

module _ (t : ℕ) (F : Farm) (at : ℕ) (b : BoardRow) (sorted : IsStrictlySortedBy board_cmp F.boards) (low : at < length F.boards) (is : b ≡ get_or F.boards at b) where
  abbrev checked : Farm
  checked = record F {
    jobs = put job_cmp F.jobs (check_job F.next b);
    boards = change_where (λ c. bytes_eq c.name b.name) (held_board (Holder.Job F.next) State.Reserved) F.boards;
    next = F.next + 1;
  }

  -- one that is not due is passed over
  pub not_due : is_due F t b ≡ false → checks_from t (at + 1) F ≡ checks_from t at F
  not_due due =
      rw (add-one at) (sym (ap (λ rows. fold check_one F (filter (is_due F t) rows)) (drop_at F.boards at b low is)
      ∙ ap (λ v. fold check_one F (cond v (b ∷ filter (is_due F t) (drop (suc at) F.boards)) (filter (is_due F t) (drop (suc at) F.boards)))) due))

  -- one that is due is checked
  behind : (v : Bool) → fold check_one (cond v checked F) (filter (is_due F t) (drop (suc at) F.boards))
      ≡ fold check_one (cond v checked F) (filter (is_due (cond v checked F) t) (drop (suc at) (cond v checked F).boards))
  behind true = ap (λ rows. fold check_one checked (filter (is_due F t) rows)) (sym (behind_same F.boards at b (held_board (Holder.Job F.next) State.Reserved) sorted low is))
  behind false = refl

  pub is_checked : is_due F t b ≡ true → checks_from t (at + 1) (check_one F b) ≡ checks_from t at F
  is_checked due =
      rw (add-one at) (sym (ap (λ rows. fold check_one F (filter (is_due F t) rows)) (drop_at F.boards at b low is)
      ∙ ap (λ v. fold check_one F (cond v (b ∷ filter (is_due F t) (drop (suc at) F.boards)) (filter (is_due F t) (drop (suc at) F.boards)))) due
      ∙ behind (has_room F 1)))

-- what a check keeps
pub checked_long : (F : Farm) (b : BoardRow) → length (check_one F b).boards ≡ length F.boards
checked_long F b = grind (arith, change_long (λ c. bytes_eq c.name b.name) (held_board (Holder.Job F.next) State.Reserved) F.boards)

pub checked_next : (F : Farm) (b : BoardRow) → F.next ≤ (check_one F b).next
checked_next F b = grind arith

pub checked_clock : (F : Farm) (b : BoardRow) → (check_one F b).clock ≡ F.clock
checked_clock F b = grind arith

-- where no board is left, all is done
pub checks_end : (t at : ℕ) (F : Farm) → length F.boards ≤ at → checks_from t at F ≡ F
checks_end t at F high = ap (λ rows. fold check_one F (filter (is_due F t) rows)) (none_left F.boards at high)
  where
    none_left : (rows : List BoardRow) (at : ℕ) → length rows ≤ at → drop at rows ≡ []
    none_left [] zero high = refl
    none_left [] (suc at) high = refl
    none_left (r ∷ rows) zero high = absurd (omega arith)
    none_left (r ∷ rows) (suc at) high = none_left rows at (omega arith)

-- ---- where boards of no type are checked

neither : (a b : Bool) → (a || b) ≡ false → (a ≡ false) × (b ≡ false)
neither true b is = cc
neither false b is = (refl, is)

unchecked : (check : Check) → checks_any check ≡ false → check ≡ Check.Never
unchecked Check.Never is = refl
unchecked (Check.Hours n) is = cc
unchecked (Check.Jobs n) is = cc

never : (types : List TypeRow) → list_any (λ t. checks_any t.check) types ≡ false → (kind : List ℕ) → check_of types kind ≡ Check.Never
never [] none kind = refl
never (r ∷ types) none kind = grind (arith, never types)

-- none is due
pub checks_none : (F : Farm) (t : ℕ) → list_any (λ t. checks_any t.check) F.types ≡ false → checks F t ≡ F
checks_none F t none = ap (fold check_one F) (all F.boards)
  where
    both_false : (v : Bool) → (v && false) ≡ false
    both_false true = refl
    both_false false = refl

    due : (b : BoardRow) → is_due F t b ≡ false
    due b = ap (λ check. is_nobody b.holder && is_due_by check t b) (never F.types none b.kind) ∙ both_false (is_nobody b.holder)

    all : (rows : List BoardRow) → filter (is_due F t) rows ≡ []
    all [] = refl
    all (b ∷ rows) = rw (due b) (all rows)
