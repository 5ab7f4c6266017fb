-- Which leases are noted: each that may yet end.
use Rattle.std.specs.Prelude.{◌≡◌, ◌||◌, ℕ, Bool, true, false, List}
use Rattle.std.specs.List.{AllByRecursion}
use Rattle.std.specs.BTreeSet.{BTreeSet, contains}
use Rattle.std.specs.Option.{option_map_or}
use Rattle.std.specs.Ordering.{nat_cmp, ordering_then}
use Rattle.std.specs.declared.cmp.Ordering.{Ordering}
use Rattle.farm_types.specs.Names.{is_dead, same_res_state}
use Rattle.farm_types.specs.declared.rows.ResRow.{ResRow}
use Rattle.farm_types.specs.declared.rows.ResState.{ResState}
use Rattle.farm_sound.specs.Keys.{res_in}
use Rattle.farm_core.specs.declared.res_table.Lease.{Lease}

-- a reservation that waits or has been allocated is dead once its lease is over
abbrev pub may_end_in : ResState → Bool
may_end_in state = same_res_state state ResState.Waiting || same_res_state state ResState.Allocated

abbrev pub may_end : ResRow → Bool
may_end r = may_end_in r.state

abbrev pub lease_of : ResRow → Lease
lease_of r = record { deadline = r.deadline; number = r.number }

-- by deadline, and then by number
abbrev pub lease_cmp : Lease → Lease → Ordering
lease_cmp a b = ordering_then (nat_cmp a.deadline b.deadline) (nat_cmp a.number b.number)

abbrev pub is_noted : BTreeSet Lease → Lease → Bool
is_noted leases lease = contains lease_cmp leases lease

abbrev pub IsNoted : BTreeSet Lease → ResRow → Type 0
IsNoted leases r = may_end r ≡ true → is_noted leases (lease_of r) ≡ true

abbrev pub AreNoted : BTreeSet Lease → List ResRow → Type 0
AreNoted leases rows = AllByRecursion (IsNoted leases) rows

-- no lease is lost
abbrev pub Grows : BTreeSet Lease → BTreeSet Lease → Type 0
Grows old new = (lease : Lease) → is_noted old lease ≡ true → is_noted new lease ≡ true

-- whether the reservation of a number is dead at a moment
abbrev pub is_dead_at : ℕ → List ResRow → ℕ → Bool
is_dead_at now rows number = option_map_or (is_dead now) (res_in rows number) false
