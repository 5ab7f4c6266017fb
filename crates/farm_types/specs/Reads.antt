-- What a reader of a text returns.
use Rattle.std.specs.Prelude.{◌≡◌, ℕ, Option, Some, None, Result, Ok, Err}
use Rattle.farm_types.specs.declared.refusal.Refusal.{Refusal}
use Rattle.farm_types.specs.declared.fault.WordFault.{WordFault}
use Rattle.farm_types.specs.declared.fault.WordFault.TheVariants.{Refused, NoMemory}

-- one reading after another: the first fault stands
infixl 10 ◌>>=◌
abbrev pub ◌>>=◌ : {A B E : Type 0} → Result A E → (A → Result B E) → Result B E
(Ok x) >>= f = f x
(Err e) >>= f = Err e

-- what a reader that takes no memory returned: its value by `view`
abbrev pub viewed : {X Y E : Type 0} → (X → Y) → Result X E → Result Y E
viewed view (Ok x) = Ok (view x)
viewed view (Err error) = Err error

-- and its refusal by the code
abbrev pub by_code : {X : Type 0} → Result X Refusal → Result X ℕ
by_code (Ok x) = Ok x
by_code (Err refusal) = Err refusal.code

-- the fault that an error has is the spelled one; where memory ran out, it has none
abbrev pub FaultOrNoMemory : {Y F : Type 0} → Option F → Result Y F → Type 0
FaultOrNoMemory None spelled = Unit {0}
FaultOrNoMemory (Some fault) spelled = spelled ≡ Err fault

-- what a reader returned is what the text spells: a value, by `view`, or the fault of
-- its error
abbrev pub OrNoMemory : {X Y E F : Type 0} → (E → Option F) → (X → Y) → Result X E → Result Y F
    → Type 0
OrNoMemory fault_of view (Ok x) spelled = spelled ≡ Ok (view x)
OrNoMemory fault_of view (Err error) spelled = FaultOrNoMemory (fault_of error) spelled

-- the code of the refusal that a word's fault is
abbrev pub refused_code : WordFault → Option ℕ
refused_code (Refused refusal) = Some refusal.code
refused_code NoMemory = None
