use Rattle.std.proofs.Common.{◌≡◌, ◌++◌, Ok}
use Rattle.toml.specs.View.{members_view}
use Rattle.farm_types.specs.Names.{◌>>=◌}
use Rattle.farm_jobfile.specs.Fields.{all_in}
use Rattle.farm_jobfile.specs.Job.{role_in}
use Rattle.farm_jobfile.proofs.job.roles_of.Given as goal

-- the members that are taken and those of the roles that are left are all the members
abbrev pub invariant-loop-name : goal.invariant-loop-name
invariant-loop-name l = all_in role_in (members_view l.table.entries) ≡ (all_in role_in (members_view l.name-iterator) >>= λ rest. Ok (l.members.items ++ rest))
