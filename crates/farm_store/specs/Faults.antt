-- The numbers of the store's faults, and which of them a word's fault becomes.
use Rattle.std.specs.Prelude.{ℕ}
use Rattle.farm_types.specs.Names.{bad_store, new_schema, no_memory, old_schema, store_fault}
use Rattle.farm_types.specs.declared.fault.WordFault.{WordFault}
use Rattle.farm_store.specs.declared.fault.StoreFault.{StoreFault}

abbrev pub store_fault_code : StoreFault → ℕ
store_fault_code StoreFault.NoMemory = no_memory
store_fault_code StoreFault.Store = store_fault
store_fault_code StoreFault.BadStore = bad_store
store_fault_code StoreFault.OldSchema = old_schema
store_fault_code StoreFault.NewSchema = new_schema

abbrev pub fault_of_word : WordFault → StoreFault
fault_of_word WordFault.NoMemory = StoreFault.NoMemory
fault_of_word (WordFault.Refused refusal) = StoreFault.BadStore
