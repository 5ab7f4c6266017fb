-- The tree of a file: a text of limited length, in UTF-8, that is TOML.
use Rattle.std.specs.Prelude.{ℕ, List, length, nat_lt, ok_or, option_map, Result, Ok, Err, if◌then◌else◌}
use Rattle.std.specs.Str.{is_utf8}
use Rattle.toml.specs.Data.{Data, table}
use Rattle.toml.specs.Parse.{parse_document}
use Rattle.farm_jobfile.specs.Reading.{Fault, bad}
use Rattle.farm_jobfile.specs.declared.fault.FileKind.{FileKind}
use Rattle.farm_jobfile.specs.declared.fault.Reason.{Reason}

-- the text of a file of at most so many bytes
unfoldable pub text_in : FileKind → ℕ → List ℕ → Result (List ℕ) Fault
text_in file most bytes =
    if nat_lt most (length bytes) then Err (bad file Reason.TooLong)
    else (if is_utf8 bytes then Ok bytes else Err (bad file Reason.NotToml))

-- the tree that TOML reads from a text, a table
unfoldable pub tree_in : FileKind → List ℕ → Result Data Fault
tree_in file text = ok_or (option_map table (parse_document text)) (bad file Reason.NotToml)
