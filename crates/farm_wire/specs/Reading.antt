-- What reading a request gives: a value, or why it asks nothing.
use Rattle.std.specs.Prelude.{ℕ, Option, Some, None, Result, Ok, Err}
use Rattle.farm_types.specs.declared.fault.WordFault.{WordFault}
use Rattle.farm_jobfile.specs.Reading.{code_of_kind}
use Rattle.farm_jobfile.specs.declared.fault.FileFault.{FileFault}
use Rattle.farm_wire.specs.declared.answers.Allowed.{Allowed}
use Rattle.farm_wire.specs.declared.fault.AskFault.{AskFault}

-- the number of a refusal, or the methods that the path has in place of the one asked
pub data Denial : Type 0 where
  refused : ℕ → Denial
  other_methods : Allowed → Denial

-- a refusal by its number alone
abbrev pub or_refused : {A : Type 0} → Result A ℕ → Result A Denial
or_refused (Ok x) = Ok x
or_refused (Err code) = Err (refused code)

-- a job file that isn't read, as a word that isn't: a bad file is refused as one
abbrev pub fault_of_file : FileFault → WordFault
fault_of_file (FileFault.Bad kind reason) = WordFault.Refused (record { code = code_of_kind kind })
fault_of_file (FileFault.Word refusal) = WordFault.Refused refusal
fault_of_file FileFault.NoMemory = WordFault.NoMemory

-- a word that isn't read, as why a request asks nothing
abbrev pub fault_of_word : WordFault → AskFault
fault_of_word (WordFault.Refused refusal) = AskFault.Refused refusal
fault_of_word WordFault.NoMemory = AskFault.NoMemory

-- why a request with a fault asks nothing, unless memory ran out
abbrev pub denial_of : AskFault → Option Denial
denial_of (AskFault.Refused refusal) = Some (refused refusal.code)
denial_of (AskFault.Method allowed) = Some (other_methods allowed)
denial_of AskFault.NoMemory = None
