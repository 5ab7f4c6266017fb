-- The numbers of a keeper's faults, its words for the store's and for those of rows, and which of
-- them may come.
use Rattle.std.specs.Prelude.{ℕ, ⊤}
use Rattle.farm_types.specs.Names.{bad_store, closed, new_schema, no_memory, old_schema, store_fault}
use Rattle.farm_core.specs.declared.farm.BadRows.{BadRows}
use Rattle.farm_store.specs.declared.fault.StoreFault.{StoreFault}
use Rattle.farm_keep.specs.declared.fault.KeepFault.{KeepFault}

abbrev pub keep_fault_code : KeepFault → ℕ
keep_fault_code KeepFault.NoMemory = no_memory
keep_fault_code KeepFault.Store = store_fault
keep_fault_code KeepFault.Closed = closed
keep_fault_code KeepFault.BadStore = bad_store
keep_fault_code KeepFault.OldSchema = old_schema
keep_fault_code KeepFault.NewSchema = new_schema

abbrev pub fault_of_store : StoreFault → KeepFault
fault_of_store StoreFault.NoMemory = KeepFault.NoMemory
fault_of_store StoreFault.Store = KeepFault.Store
fault_of_store StoreFault.BadStore = KeepFault.BadStore
fault_of_store StoreFault.OldSchema = KeepFault.OldSchema
fault_of_store StoreFault.NewSchema = KeepFault.NewSchema

-- rows that are no sound farm's are a bad store's
abbrev pub rows_fault : BadRows → KeepFault
rows_fault BadRows.Unsound = KeepFault.BadStore
rows_fault BadRows.NoMemory = KeepFault.NoMemory

-- ---- what may come, and nothing else

-- where a farm stands that the call wants: memory was refused, or the store failed
abbrev pub IsOwnFault : KeepFault → Type 0
IsOwnFault KeepFault.NoMemory = ⊤
IsOwnFault KeepFault.Store = ⊤
IsOwnFault fault = ⊥

-- of a command
abbrev pub IsActFault : KeepFault → Type 0
IsActFault KeepFault.Closed = ⊤
IsActFault fault = IsOwnFault fault

-- where a farm is looked for
abbrev pub IsFindFault : KeepFault → Type 0
IsFindFault KeepFault.BadStore = ⊤
IsFindFault KeepFault.OldSchema = ⊤
IsFindFault fault = IsOwnFault fault

-- of a migration
abbrev pub IsMigrateFault : KeepFault → Type 0
IsMigrateFault KeepFault.BadStore = ⊤
IsMigrateFault KeepFault.NewSchema = ⊤
IsMigrateFault fault = IsOwnFault fault
