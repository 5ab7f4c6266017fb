-- What reading a file gives: a value, or the first fault.
use Rattle.std.specs.Prelude.{ℕ, Option, Some, None, ok_or, Result, Ok, Err}
use Rattle.farm_types.specs.Names.{bad_job_file, bad_lab_file, no_memory}
use Rattle.farm_types.specs.declared.fault.WordFault.{WordFault}
use Rattle.farm_jobfile.specs.declared.fault.FileKind.{FileKind}
use Rattle.farm_jobfile.specs.declared.fault.Reason.{Reason}
pub use Rattle.farm_jobfile.specs.declared.fault.Fault.{Fault}
use Rattle.farm_jobfile.specs.declared.fault.FileFault.{FileFault}

-- the number of a fault in the table of refusals
abbrev pub code_of_kind : FileKind → ℕ
code_of_kind FileKind.JobFile = bad_job_file
code_of_kind FileKind.LabFile = bad_lab_file

abbrev pub file_fault_code : FileFault → ℕ
file_fault_code (FileFault.Bad kind reason) = code_of_kind kind
file_fault_code (FileFault.Word refusal) = refusal.code
file_fault_code FileFault.NoMemory = no_memory

-- a fault of a word as a fault of the file that has it
abbrev pub of_word : WordFault → FileFault
of_word (WordFault.Refused refusal) = FileFault.Word refusal
of_word WordFault.NoMemory = FileFault.NoMemory

-- a fault that a text has: the file is bad, or one of its words is refused with a number
abbrev pub bad : FileKind → Reason → Fault
bad = Fault.Bad

abbrev pub word : ℕ → Fault
word code = Fault.Word (record { code = code })

-- its number in the table of refusals
abbrev pub fault_code_of : Fault → ℕ
fault_code_of (Fault.Bad file reason) = code_of_kind file
fault_code_of (Fault.Word refusal) = refusal.code

-- what was read, a fault by its number alone
abbrev pub fault_by_number : {A : Type 0} → Result A Fault → Result A ℕ
fault_by_number (Ok x) = Ok x
fault_by_number (Err fault) = Err (fault_code_of fault)

-- the refusal of a word, or of a count, is a fault of the file
abbrev pub or_word : {A : Type 0} → Result A ℕ → Result A Fault
or_word (Ok x) = Ok x
or_word (Err code) = Err (word code)

-- what must be there
abbrev pub there_or : {A : Type 0} → FileKind → Option A → Result A Fault
there_or file o = ok_or o (bad file Reason.Missing)

-- what must be of its kind
abbrev pub kind_or : {A : Type 0} → FileKind → Option A → Result A Fault
kind_or file o = ok_or o (bad file Reason.WrongKind)

-- a file's fault is one of the text, unless memory ran out
abbrev pub text_fault : FileFault → Option Fault
text_fault (FileFault.Bad kind reason) = Some (Fault.Bad kind reason)
text_fault (FileFault.Word refusal) = Some (Fault.Word refusal)
text_fault FileFault.NoMemory = None
