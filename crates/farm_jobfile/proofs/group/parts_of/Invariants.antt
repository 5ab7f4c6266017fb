use Rattle.std.proofs.Common.{◌≡◌, ◌++◌, map, true}
use Rattle.std.specs.List.{list_all}
use Rattle.farm_jobfile.specs.Job.{is_full_want, is_role, want_of, role_of}
use Rattle.farm_jobfile.proofs.group.parts_of.Given as goal

-- what is taken, with what the members that are left give, is all
abbrev pub invariant-loop-member : goal.invariant-loop-member
invariant-loop-member l = record {
  wants : l.wants.items ++ map want_of l.member-iterator.rest.items ≡ map want_of l.fn.members.items;
  roles : l.roles.items ++ map role_of l.member-iterator.rest.items ≡ map role_of l.fn.members.items;
  full : list_all is_full_want l.wants.items ≡ true;
  named : list_all is_role l.roles.items ≡ true;
}
