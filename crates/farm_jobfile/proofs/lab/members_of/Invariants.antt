use Rattle.std.proofs.Common.{◌≡◌, ◌++◌, map, Ok}
use Rattle.toml.specs.View.{members_view}
use Rattle.farm_types.specs.Names.{◌>>=◌}
use Rattle.farm_jobfile.specs.Lab.{entries_of, entry_of, entry_in}
use Rattle.farm_jobfile.proofs.lab.members_of.Given as goal

-- the calls that are made and those of the members that are left are all the calls
abbrev pub invariant-loop-name : goal.invariant-loop-name
invariant-loop-name l = entries_of (entry_in l.section l.now) (members_view l.table.entries) ≡ (entries_of (entry_in l.section l.now) (members_view l.name-iterator) >>= λ rest. Ok (map entry_of l.calls.items ++ rest))
