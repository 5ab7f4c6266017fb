-- What a parse of the program's words comes to.
use Rattle.std.proofs.Common.{List, [], true, Option, inl, inr, ◌≡◌, ◌∙◌, refl, sym, subst}
use Rattle.clap.specs.Kinds.{HasKind, Kinds}
use Rattle.clap.specs.Words.{App, HasMatchesOf, Row, Text, fault_of, is_simple_and_free, kind_of, subcommand_of, subcommand_rows_of}
use Rattle.clap.specs.declared.error.Error.{Error}
use Rattle.clap.specs.declared.error.kind.ErrorKind.{ErrorKind}
use Rattle.clap.specs.declared.error.kind.ErrorKind.TheVariants.{DisplayHelp, DisplayVersion, OutOfMemory}
use Rattle.clap.specs.declared.parser.matches.ArgMatches.{ArgMatches}
use Rattle.farm_cli.specs.App.{farm_app}
use Rattle.farm_cli.specs.Faults.{IsAnswer, IsFaultAmong, IsOfKind}
use Rattle.farm_cli.specs.declared.fault.OrderFault.{OrderFault}
use Rattle.farm_cli.specs.declared.fault.OrderFault.TheVariants.{Help, Words, NoMemory}

no_answer : (kind : ErrorKind) → kind ≡ OutOfMemory → IsAnswer kind → ⊥
no_answer kind m (inl h) = let e : OutOfMemory ≡ DisplayHelp = sym m ∙ h in cc
no_answer kind m (inr v) = let e : OutOfMemory ≡ DisplayVersion = sym m ∙ v in cc

among : (kinds : Kinds) (named : Option (Text × List Row)) (e : Error) (f : OrderFault) → HasKind kinds e → IsOfKind (kind_of e) f
    → IsFaultAmong kinds named f
among kinds named e (Help t) (inl m) o = absurd (no_answer (kind_of e) m o)
among kinds named e (Help t) (inr a) o = (kind_of e, a, o)
among kinds named e (Words t) (inl m) o = absurd (o.0 m)
among kinds named e (Words t) (inr a) o = inl (kind_of e, a, o.1)
among kinds named e NoMemory h o = tt

-- the fault of an error of the parse
pub parse_fault : (app : App) (words : List Text) (e : Error) (f : OrderFault) → app ≡ farm_app
    → (is_simple_and_free app ≡ true → HasKind (fault_of app words) e) → IsOfKind (kind_of e) f
    → IsFaultAmong (fault_of farm_app words) (subcommand_of farm_app words) f
parse_fault app words e f is kinds o =
    let known : HasKind (fault_of farm_app words) e = subst (λ (a : App). is_simple_and_free a ≡ true → HasKind (fault_of a words) e) is kinds refl in
    among (fault_of farm_app words) (subcommand_of farm_app words) e f known o

-- an error for want of memory
pub memory_fault : (e : Error) (f : OrderFault) → kind_of e ≡ OutOfMemory → IsOfKind (kind_of e) f → f ≡ NoMemory
memory_fault e (Help t) m o = absurd (no_answer (kind_of e) m o)
memory_fault e (Words t) m o = absurd (o.0 m)
memory_fault e NoMemory m o = refl

-- a parse of the program's words that succeeds
pub parse_faultless : (app : App) (words : List Text) → app ≡ farm_app → (is_simple_and_free app ≡ true → fault_of app words ≡ [])
    → fault_of farm_app words ≡ []
parse_faultless app words is faultless = subst (λ (a : App). is_simple_and_free a ≡ true → fault_of a words ≡ []) is faultless refl

-- the subcommand of its matches
pub parse_named : (app : App) (words : List Text) (m : ArgMatches) → app ≡ farm_app → HasMatchesOf app words m
    → subcommand_rows_of m ≡ subcommand_of farm_app words
parse_named app words m is matches = (subst (λ (a : App). HasMatchesOf a words m) is matches refl).1
