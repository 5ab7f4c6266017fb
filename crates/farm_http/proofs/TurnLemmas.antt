-- Turns that are taken one after another.
use Rattle.std.proofs.Common.{◌≡◌, ℕ, ◌+◌, ◌-◌, ◌<◌, refl, sym, subst, arith, suc, zero, inl, inr}
use Rattle.std.specs.Prelude.{Option}
use Rattle.farm_http.specs.Turns.{Turns, TakesTurn, FailsAtTurn, TakesTurns, IsSpent, IsSpentBy, LeavesTurns, TakesAtMost}
use Rattle.farm_http.specs.declared.fault.WireFault.{WireFault}
use Rattle.farm_http.specs.declared.fault.WireFault.TheVariants.{NoMemory, Read, Write, Refused}

-- ---- turns, and more turns

pub takes_none : (a : Option Turns) → TakesTurns 0 a a
unfolding TakesTurns
takes_none a = refl

pub takes_next : (n : ℕ) (a b c : Option Turns) → TakesTurns n a b → TakesTurn b c → TakesTurns (n + 1) a c
unfolding TakesTurns
takes_next n a b c these next =
    let all : TakesTurns (suc n) a c = (b, these, next) in
    let same : suc n ≡ n + 1 = omega arith in
    subst (λ k. TakesTurns k a c) same all

takes_both : (n m : ℕ) (a b c : Option Turns) → TakesTurns n a b → TakesTurns m b c → TakesTurns (n + m) a c
unfolding TakesTurns
takes_both n zero a b c first more =
    let same : n ≡ n + 0 = omega arith in
    subst (λ d. TakesTurns (n + 0) a d) (sym more) (subst (λ k. TakesTurns k a b) same first)
takes_both n (suc m) a b c first more =
    let all : TakesTurns (suc (n + m)) a c = (more.0, takes_both n m a b more.0 first more.1, more.2) in
    let same : suc (n + m) ≡ n + suc m = omega arith in
    subst (λ k. TakesTurns k a c) same all

-- ---- turns that are left

pub leaves_all : (had : ℕ) (a : Option Turns) → LeavesTurns had had a a
leaves_all had a = (0, omega arith, takes_none a)

-- one more is taken
pub leaves_next : (had left : ℕ) (a b c : Option Turns) → 0 < left → LeavesTurns had left a b → TakesTurn b c → LeavesTurns had (left - 1) a c
leaves_next had left a b c some these next = (these.0 + 1, omega (arith, some, these.1), takes_next these.0 a b c these.2 next)

-- it fails at one more
pub fails_next : (had left : ℕ) (a b c : Option Turns) → 0 < left → LeavesTurns had left a b → FailsAtTurn b c → IsSpent had a c
fails_next had left a b c some these fails = inl (these.0, omega (arith, some, these.1), (b, these.2, fails))

-- of those that are left some are taken
pub leaves_both : (had mid left : ℕ) (a b c : Option Turns) → LeavesTurns had mid a b → LeavesTurns mid left b c → LeavesTurns had left a c
leaves_both had mid left a b c first more =
    (first.0 + more.0, omega (arith, first.1, more.1), takes_both first.0 more.0 a b c first.2 more.2)

-- it fails at one of those that are left, or takes them all
spent_behind : (had mid : ℕ) (a b c : Option Turns) → LeavesTurns had mid a b → IsSpent mid b c → IsSpent had a c
spent_behind had mid a b c first (inl fails) =
    inl (first.0 + fails.0, omega (arith, first.1, fails.1), (fails.2.0, takes_both first.0 fails.0 a b fails.2.0 first.2 fails.2.1, fails.2.2))
spent_behind had mid a b c first (inr all) =
    let whole : first.0 + mid ≡ had = omega (arith, first.1) in
    inr (subst (λ k. TakesTurns k a c) whole (takes_both first.0 mid a b c first.2 all))

-- reading ends with a fault, by those that are left
pub spends_behind : (had mid left : ℕ) (a b c : Option Turns) (e : WireFault) → LeavesTurns had mid a b → IsSpentBy mid left b c e → IsSpentBy had left a c e
spends_behind had mid left a b c NoMemory first more = leaves_both had mid left a b c first more
spends_behind had mid left a b c Read first more = spent_behind had mid a b c first more
spends_behind had mid left a b c Write first more = leaves_both had mid left a b c first more
spends_behind had mid left a b c (Refused refusal) first more = leaves_both had mid left a b c first more

-- ---- a number of turns at most

pub takes_at_most_next : (most more : ℕ) (a b c : Option Turns) → most < more → TakesAtMost most a b → TakesTurn b c → TakesAtMost more a c
takes_at_most_next most more a b c less these next = (these.0 + 1, omega (arith, less, these.1), takes_next these.0 a b c these.2 next)
