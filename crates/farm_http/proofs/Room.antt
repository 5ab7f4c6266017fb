-- A writer with room for bytes takes them in its first write, and then has room for less by these.
use Rattle.std.proofs.Common.{◌≡◌, ◌⊎◌, ℕ, ◌+◌, ◌-◌, ◌<◌, List, length, length-append, arith, subst, sym, ◌∙◌, ap, Ok, inl, inr}
use Rattle.std.specs.Prelude.{Option, Some, None, Result}
use Rattle.std.specs.Io.KnownBytes.{Appends}
use Rattle.farm_http.specs.Room.{KeepsRoom}
use Rattle.farm_http.specs.declared.fault.WireFault.{WireFault}

-- nothing was written yet, and the write that comes takes all
pub takes_all : {W : Type 0} (room : W → ℕ → Type 0) (first at : W) (len done rest : ℕ) (r : Result ℕ WireFault)
    → (done ≡ 0 → at ≡ first) → rest ≡ len - done → (room at rest → r ≡ Ok rest) → (done ≡ 0) ⊎ (done ≡ len) → done < len → room first len
    → (done ≡ 0) × (r ≡ Ok len)
takes_all room first at len done rest r same size sure (inl none) before roomy =
    let whole : rest ≡ len = omega (arith, size, none) in
    (none, sure (subst (λ w. room w rest) (sym (same none)) (subst (room first) (sym whole) roomy)) ∙ ap (λ n. Ok n) whole)
takes_all room first at len done rest r same size sure (inr all) before roomy = absurd (omega (arith, all, before))

-- so it took that many
pub took : (n len : ℕ) (r : Result ℕ WireFault) → r ≡ Ok n → r ≡ Ok len → n ≡ len
took n len r x y = cc

-- ---- the room that is left

-- nothing was written yet
pub room_kept : (Room : ℕ → Type 0) (held : Option (List ℕ)) → KeepsRoom Room Room held held
room_kept Room None n room = absurd room
room_kept Room (Some held) n room = subst Room (omega arith) room

-- bytes were written, and then more
pub room_left : (First Next Last : ℕ → Type 0) (a b c : Option (List ℕ)) (bs cs : List ℕ) → Appends a b bs → KeepsRoom First Next a b → Appends b c cs → KeepsRoom Next Last b c
    → KeepsRoom First Last a c
room_left First Next Last None b c bs cs p first q last n room = absurd room
room_left First Next Last (Some x) None c bs cs p first q last n room = absurd p
room_left First Next Last (Some x) (Some y) None bs cs p first q last n room = absurd room
room_left First Next Last (Some x) (Some y) (Some z) bs cs p first q last n room =
    let more : length z - length x + n ≡ length y - length x + (length z - length y + n) =
    omega (arith, ap length p, ap length q, length-append x bs, length-append y cs) in
    last n (first (length z - length y + n) (subst First more room))
