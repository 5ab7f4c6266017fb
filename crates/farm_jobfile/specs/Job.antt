-- The command that a job file spells.
use Rattle.std.specs.Prelude.{ℕ, ℤ, List, [], ◌∷◌, ◌&&◌, Bool, true, map, replicate, nat_le, Option, Some, None, is_some, ok_or, Result, Ok, Err, codes}
use Rattle.std.specs.Prelude.{if◌then◌else◌}
use Rattle.toml.specs.Data.{Data, get, as_str, as_integer, as_float, as_table}
use Rattle.std.specs.Option.{option_map_or}
use Rattle.farm_types.specs.Names.{are_few_wants, bad_count, bad_priority, is_priority, is_want, is_word, longest_job_file, longest_name, medium_priority}
use Rattle.farm_types.specs.Names.{most_wants, priority_called, ◌>>=◌}
use Rattle.farm_types.specs.declared.calls.Cmd.{Cmd}
use Rattle.farm_types.specs.declared.rows.Want.{Want}
use Rattle.farm_jobfile.specs.Reading.{Fault, bad, word, there_or, kind_or}
use Rattle.farm_jobfile.specs.Document.{text_in, tree_in}
use Rattle.farm_jobfile.specs.Fields.{natural_of, natural_in, name_or, name_from, name_in, all_in, tags_in}
use Rattle.farm_jobfile.specs.declared.fault.FileKind.TheVariants.{JobFile}
use Rattle.farm_jobfile.specs.declared.fault.Reason.{Reason}
use Rattle.farm_jobfile.specs.declared.group.Member.{Member}

-- ---- the name

-- a job's name is not empty
abbrev pub title_or : List ℕ → Result (List ℕ) Fault
title_or [] = Err (bad JobFile Reason.Missing)
title_or (byte ∷ text) = Ok (byte ∷ text)

-- the text under the key `job_name`
unfoldable pub title_in : Data → Result (List ℕ) Fault
title_in d = do
  field ← there_or JobFile (get (codes "job_name") d)
  text ← kind_or JobFile (as_str field)
  title_or text

-- ---- the priority

-- what a text names, or a whole number that is a priority; another number is none, and another kind is no priority at all
abbrev pub priority_by : Option (List ℕ) → Option ℤ → Bool → Result ℕ Fault
priority_by (Some text) number is_float = ok_or (priority_called text) (word bad_priority)
priority_by None (Some number) is_float =
    ok_or (natural_of number) (word bad_priority) >>= λ n. if is_priority n then Ok n else Err (word bad_priority)
priority_by None None is_float = if is_float then Err (word bad_priority)
    else Err (bad JobFile Reason.WrongKind)

unfoldable pub priority_from : Data → Result ℕ Fault
priority_from d = priority_by (as_str d) (as_integer d) (is_some (as_float d))

-- the priority under the key `priority`; absent means medium
unfoldable pub priority_in : Data → Result ℕ Fault
priority_in d = option_map_or priority_from (get (codes "priority") d) (Ok medium_priority)

-- ---- one board

-- one member without a role, which wants a board of a type with tags
unfoldable pub single_in : Data → Data → Result (List Member) Fault
single_in kind d = do
  name ← name_from JobFile kind
  tags ← tags_in JobFile d
  Ok (record { role = None; kind = name; tags = tags } ∷ [])

-- ---- roles

-- the whole number under the key `count`, as many as a submission may have
unfoldable pub count_in : Data → Result ℕ Fault
count_in d = do
  count ← natural_in JobFile (codes "count") d
  n ← ok_or count (word bad_count)
  if nat_le 1 n && nat_le n most_wants then Ok n else Err (word bad_count)

-- so many members with that role
unfoldable pub playing_in : Option (List ℕ) → Data → Result (List Member) Fault
playing_in role d = do
  kind ← name_in JobFile (codes "device_type") d
  count ← count_in d
  tags ← tags_in JobFile d
  Ok (replicate count (record { role = role; kind = kind; tags = tags }))

-- the members that play one role
unfoldable pub role_in : List ℕ → Data → Result (List Member) Fault
role_in name d = do
  role ← name_or name
  table ← kind_or JobFile (as_table d)
  playing_in (Some role) d

-- ---- the job

-- exactly one of `device_type` and `roles`; tags stand in each role, and not beside them
abbrev pub members_by : Data → Option Data → Option Data → Option Data → Result (List Member) Fault
members_by d (Some kind) (Some roles) tags = Err (bad JobFile Reason.Both)
members_by d None (Some roles) (Some tags) = Err (bad JobFile Reason.Both)
members_by d None (Some roles) None = kind_or JobFile (as_table roles) >>= all_in role_in
members_by d (Some kind) None tags = single_in kind d
members_by d None None tags = Err (bad JobFile Reason.Missing)

unfoldable pub members_in : Data → Result (List Member) Fault
members_in d = members_by d (get (codes "device_type") d) (get (codes "roles") d)
    (get (codes "tags") d)

-- what a member wants, and its role
abbrev pub want_of : Member → Want
want_of m = record { kind = Some m.kind; tags = m.tags }

abbrev pub role_of : Member → Option (List ℕ)
role_of m = m.role

-- a want that names a type, and a role that is a name, if it is one
abbrev pub is_full_want : Want → Bool
is_full_want w = is_some w.kind && is_want w

abbrev pub is_role : Option (List ℕ) → Bool
is_role r = option_map_or (is_word longest_name) r true

-- one up to four members are a group
abbrev pub group_of : ℕ → List Member → List ℕ → Result Cmd Fault
group_of priority members text =
    if are_few_wants (map want_of members)
    then Ok (Cmd.Submit priority (map want_of members) (map role_of members) text)
    else Err (word bad_count)

-- the command that a job file spells; it carries the text as it came
unfoldable pub job : List ℕ → Result Cmd Fault
job bytes = do
  text ← text_in JobFile longest_job_file bytes
  d ← tree_in JobFile text
  title ← title_in d
  priority ← priority_in d
  members ← members_in d
  group_of priority members text
