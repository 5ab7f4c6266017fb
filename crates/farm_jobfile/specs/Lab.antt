-- The calls that a lab file spells.
use Rattle.std.specs.Prelude.{ℕ, List, [], ◌∷◌, ◌++◌, Option, Some, None, option_and_then, Result, Ok, Err, codes, if◌then◌else◌}
use Rattle.std.specs.Option.{option_map_or}
use Rattle.toml.specs.Data.{Data, Members, get, as_str, as_table}
use Rattle.farm_types.specs.Names.{bad_tag, check_by, has_no_name_tag, is_every, longest_lab_file, unit_called, ◌>>=◌}
use Rattle.farm_types.specs.declared.called.CheckUnit.{CheckUnit}
use Rattle.farm_types.specs.declared.calls.Call.{Call}
use Rattle.farm_types.specs.declared.calls.Cmd.{Cmd}
use Rattle.farm_types.specs.declared.rows.Check.{Check}
use Rattle.farm_jobfile.specs.Reading.{Fault, bad, word, kind_or}
use Rattle.farm_jobfile.specs.Document.{text_in, tree_in}
use Rattle.farm_jobfile.specs.Fields.{natural_in, name_or, name_in, all_in, tags_in}
use Rattle.farm_jobfile.specs.declared.fault.FileKind.TheVariants.{LabFile}
use Rattle.farm_jobfile.specs.declared.fault.Reason.{Reason}
use Rattle.farm_jobfile.specs.declared.lab.Section.{Section}

-- who gives a command, at what moment, and the key under which its reply is kept
pub record LabCall : Type 0 where
  pub caller : List ℕ
  pub key : Option (List ℕ)
  pub now : ℕ
  pub cmd : Cmd

-- what a call says
abbrev pub entry_of : Call → LabCall
entry_of call = record { caller = call.caller; key = call.key; now = call.now; cmd = call.cmd }

-- the call of a lab file's command: an admin gives it, under a key of its own
abbrev pub given_entry : List ℕ → List ℕ → ℕ → Cmd → LabCall
given_entry prefix name now cmd = record {
  caller = codes "admin";
  key = Some (prefix ++ name);
  now = now;
  cmd = cmd;
}

-- ---- types

-- the unit under the key `check`; absent means none
unfoldable pub unit_in : Data → Result CheckUnit Fault
unit_in d =
    option_map_or (λ field. kind_or LabFile (option_and_then unit_called (as_str field))) (get (codes "check") d) (Ok CheckUnit.None)

-- the frequency under the key `every`, 1 to 10,000
unfoldable pub every_in : Data → Result ℕ Fault
every_in d = do
  every ← natural_in LabFile (codes "every") d
  n ← kind_or LabFile every
  if is_every n then Ok n else Err (bad LabFile Reason.WrongKind)

-- the check that the two keys spell
unfoldable pub check_in : Data → Result Check Fault
check_in d = unit_in d >>= λ unit. check_by unit (every_in d)

-- the type of a name
unfoldable pub type_in : ℕ → List ℕ → Data → Result LabCall Fault
type_in now name d = do
  kind ← name_or name
  table ← kind_or LabFile (as_table d)
  check ← check_in d
  Ok (given_entry (codes "type.") kind now (Cmd.AddType kind check))

-- ---- boards

-- tags for a board: none has the key `name`
abbrev pub own_tags : List (List ℕ) → Result (List (List ℕ)) Fault
own_tags tags = if has_no_name_tag tags then Ok tags else Err (word bad_tag)

-- the board of a name
unfoldable pub board_in : ℕ → List ℕ → Data → Result LabCall Fault
board_in now name d = do
  board ← name_or name
  table ← kind_or LabFile (as_table d)
  kind ← name_in LabFile (codes "type") d
  tags ← tags_in LabFile d
  own ← own_tags tags
  Ok (given_entry (codes "board.") board now (Cmd.AddBoard board kind own))

-- ---- the lab

-- what a member of either table spells
abbrev pub entry_in : Section → ℕ → List ℕ → Data → Result LabCall Fault
entry_in Section.Types = type_in
entry_in Section.Boards = board_in

-- what each member of a table spells
abbrev pub entries_of : (List ℕ → Data → Result LabCall Fault) → Members → Result (List LabCall) Fault
entries_of read = all_in (λ name d. read name d >>= λ entry. Ok (entry ∷ []))

-- an absent table has no members
abbrev pub section : (List ℕ → Data → Result LabCall Fault) → Option Data → Result (List LabCall) Fault
section read field = option_map_or (λ d. kind_or LabFile (as_table d) >>= entries_of read) field (Ok [])

-- the calls that a tree spells at a moment: each type is added, then each board
unfoldable pub calls_in : ℕ → Data → Result (List LabCall) Fault
calls_in now d = do
  types ← section (type_in now) (get (codes "types") d)
  boards ← section (board_in now) (get (codes "boards") d)
  Ok (types ++ boards)

-- the calls that a lab file spells at a moment
unfoldable pub lab : List ℕ → ℕ → Result (List LabCall) Fault
lab bytes now = do
  text ← text_in LabFile longest_lab_file bytes
  d ← tree_in LabFile text
  calls_in now d

-- the command adds a type or a board
abbrev pub IsAddition : Cmd → Type 0
IsAddition (Cmd.AddType name check) = Unit {0}
IsAddition (Cmd.AddBoard name kind tags) = Unit {0}
IsAddition cmd = ⊥
