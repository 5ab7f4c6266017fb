-- The queue's claims as the rows show them: a reservation by itself, a group by its first member
-- and the rows behind it.
use Rattle.std.specs.Prelude.{◌==◌, ◌&&◌, ◌-◌, ℕ, Bool, List, [], ◌∷◌, length, take, filter, if◌then◌else◌}
use Rattle.std.specs.List.{list_all}
use Rattle.farm_types.specs.Names.{most_wants, res_claim, shown_claim, waits}
use Rattle.farm_types.specs.declared.claims.Claim.{Claim}
use Rattle.farm_types.specs.declared.claims.ClaimKind.{ClaimKind}
use Rattle.farm_types.specs.declared.rows.JobRow.{JobRow}
use Rattle.farm_types.specs.declared.rows.ResRow.{ResRow}

abbrev pub shown_reservation : ResRow → Claim
shown_reservation r = shown_claim (res_claim r)

-- the members of a job's group among the rows near it
abbrev pub mates : JobRow → List JobRow → List JobRow
mates j near = filter (λ m. m.group == j.group) near

-- whether a job is the first of a group whose members all wait for boards
abbrev pub leads : JobRow → List JobRow → Bool
leads j near = (j.number == j.group) && (waits j && list_all waits (mates j near))

abbrev pub shown_group : JobRow → List JobRow → Claim
shown_group j near = record {
  kind = ClaimKind.Group;
  number = j.group;
  owner = j.owner;
  priority = j.priority;
  boards = length (j ∷ mates j near);
}

-- how many rows behind the first member of a group may be members of it, since their numbers
-- follow each other
abbrev pub most_mates : ℕ
most_mates = most_wants - 1

abbrev pub shown_groups : List JobRow → List Claim
shown_groups [] = []
shown_groups (j ∷ jobs) = if leads j (take most_mates jobs) then shown_group j (take most_mates jobs)
    ∷ shown_groups jobs else shown_groups jobs
