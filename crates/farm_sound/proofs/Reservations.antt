-- The commands on a reservation keep soundness, and so does their end.
use Rattle.std.proofs.Common.{◌+◌, ◌<◌, ◌==◌, ◌∙◌, ◌≡◌, ◌≤◌, Bool, IsSome, IsTrue, List, None, Some, ap, arith, length, refl, subst, sym, ℕ}
use Rattle.farm_sound.proofs.Names.{AllByRecursion, false≢true, Farm, Holder, put_res, ResRow, ResState, State}
use Rattle.farm_types.specs.Names.{change_res, expire, freed_board, hold, in_state, is_dead, is_priority, IsName, IsSound, IsTags, most_reservations, new_res}
use Rattle.farm_types.specs.Names.{numbers_end, res_gives, res_hold}
use Rattle.farm_sound.proofs.Add.{IsHeldByKeys-add_res, IsSteady-add_res}
use Rattle.farm_sound.proofs.Changes.{IsSound-change_res}
use Rattle.farm_sound.proofs.Held.{Leaves}
use Rattle.farm_sound.proofs.Rows.{board_row_in, leaves_off, leaves_on, leaves_same, res_row_in}
use Rattle.farm_sound.proofs.Tests.{same_number}
use Rattle.farm_sound.proofs.Where.{all_true}

pub IsSound-reserve : (F : Farm) (caller : List ℕ) (priority : ℕ) (tags : List (List ℕ)) → IsName caller → IsTrue (is_priority priority) → IsTags tags
    → length F.reservations < most_reservations → F.next < numbers_end → IsSound F
    → IsSound (record (put_res F (new_res F.next caller priority tags (F.clock + 60))) { next = F.next + 1 })
IsSound-reserve F caller priority tags name prio words room numbers sound =
    let row = new_res F.next caller priority tags (F.clock + 60) in
    record {
      steady = IsSteady-add_res F row refl room numbers
          (record {
            number = (sound.steady.next.0, omega arith);
            owner = name;
            priority = prio;
            want = words;
            kind = refl;
            deadline = omega arith;
            board = tt;
            waits = λ _. refl;
            holds = λ e. absurd (false≢true e);
          }) sound.steady;
      held = IsHeldByKeys-add_res F row sound.steady refl refl sound.held;
      whole = sound.whole;
      collecting = sound.collecting;
    }

-- ---- a reservation that is there

-- a reservation lets its board go, if it has one
let_go : (F : Farm) (test : ResRow → Bool) (s : ResState) → res_gives s ≡ None → (s ≡ ResState.Waiting → ⊥) → IsSound F
    → IsSound (change_res test (λ r. record r { state = s }) freed_board F)
let_go F test s gives ends sound =
    IsSound-change_res F test (λ r. record r { state = s }) freed_board (λ r. Unit {0})
    (record {
      reservations = all_true F.reservations;
      same = λ r. refl;
      row = λ r so p is. res_row_in _ r s r.deadline r.board is.deadline is.board (λ e. absurd (ends e)) (λ e. absurd (false≢true (subst IsSome gives e))) is;
      boards = record { name = λ b. refl; kind = λ b. refl; row = λ b is. board_row_in F b Holder.Nobody State.Idle (λ _. refl) is };
      leaves = λ r so p. subst (λ o. Leaves (res_hold r) (hold (Holder.Res r.number) r.board o) freed_board) (sym gives)
          (leaves_off (res_hold r) (Holder.Res r.number) r.board freed_board (λ b. refl) (λ b. refl));
    })
    sound

pub IsSound-expire : (F : Farm) (t : ℕ) → IsSound F → IsSound (expire F t)
IsSound-expire F t sound = let_go F (is_dead t) ResState.Expired refl (λ e. cc) sound

pub IsSound-cancel_res : (F : Farm) (n : ℕ) → IsSound F → IsSound (change_res (λ r. r.number == n) (λ r. record r { state = ResState.Canceled }) freed_board F)
IsSound-cancel_res F n sound = let_go F (λ r. r.number == n) ResState.Canceled refl (λ e. cc) sound

-- a reservation that holds a board goes on in another state in which it does
pub goes_on : (F : Farm) (n : ℕ) (s t : ResState) (x y : State) (d : ℕ → ℕ) → ((k : ℕ) → k ≤ F.clock + 60 → d k ≤ F.clock + 60) → res_gives s ≡ Some x
    → res_gives t ≡ Some y → AllByRecursion (λ (r : ResRow). r.number ≡ n → r.state ≡ s) F.reservations → IsSound F
    → IsSound (change_res (λ r. r.number == n) (λ r. record r { state = t; deadline = d r.deadline }) (in_state y) F)
goes_on F n s t x y d low from to all sound =
    IsSound-change_res F (λ r. r.number == n) (λ r. record r { state = t; deadline = d r.deadline }) (in_state y) (λ r. r.number ≡ n → r.state ≡ s)
    (record {
      reservations = all;
      same = λ r. refl;
      row = λ r so p is.
          let at : r.state ≡ s = p (same_number r.number n so) in
          res_row_in _ r t (d r.deadline) r.board (low r.deadline is.deadline) is.board (λ e. let w : None ≡ Some y = ap res_gives (sym e) ∙ to in cc)
          (λ _. is.holds (subst IsSome (sym (ap res_gives at ∙ from)) refl)) is;
      boards = record { name = λ b. refl; kind = λ b. refl; row = λ b is. board_row_in F b b.holder y is.retired is };
      leaves = λ r so p. subst (λ o. Leaves (res_hold r) (hold (Holder.Res r.number) r.board o) (in_state y)) (sym to)
          (subst (λ o. Leaves (hold (Holder.Res r.number) r.board o) (hold (Holder.Res r.number) r.board (Some y)) (in_state y))
          (sym (ap res_gives (p (same_number r.number n so)) ∙ from)) (leaves_on (Holder.Res r.number) r.board x y));
    })
    sound

-- Refresh: no state changes
pub IsSound-refresh : (F : Farm) (n : ℕ) → IsSound F → IsSound (change_res (λ r. r.number == n) (λ r. record r { deadline = F.clock + 60 }) (λ b. b) F)
IsSound-refresh F n sound =
    IsSound-change_res F (λ r. r.number == n) (λ r. record r { deadline = F.clock + 60 }) (λ b. b) (λ r. Unit {0})
    (record {
      reservations = all_true F.reservations;
      same = λ r. refl;
      row = λ r so p is. res_row_in _ r r.state (F.clock + 60) r.board (omega arith) is.board is.waits is.holds is;
      boards = record { name = λ b. refl; kind = λ b. refl; row = λ b is. is };
      leaves = λ r so p. leaves_same (res_hold r);
    })
    sound
