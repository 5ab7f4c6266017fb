-- The numbers of a conversation's faults.
use Rattle.std.specs.Prelude.{ℕ}
use Rattle.farm_types.specs.Names.{no_memory, read_fault, write_fault}
use Rattle.farm_jobfile.specs.Reading.{file_fault_code}
use Rattle.farm_keep.specs.Faults.{keep_fault_code}
use Rattle.farm_serve.specs.declared.fault.DeskFault.{DeskFault}

abbrev pub desk_fault_code : DeskFault → ℕ
desk_fault_code DeskFault.NoMemory = no_memory
desk_fault_code DeskFault.Read = read_fault
desk_fault_code DeskFault.Write = write_fault
desk_fault_code (DeskFault.Keep fault) = keep_fault_code fault
desk_fault_code (DeskFault.File fault) = file_fault_code fault
