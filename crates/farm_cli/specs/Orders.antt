-- The order that a subcommand and its values name.
use Rattle.std.specs.Prelude.{◌≤◌, ◌&&◌, ℕ, Bool, List, Option, Some, None, false, ⊤, codes, if◌then◌else◌, is_some, nat_le, option_and_then}
use Rattle.std.specs.Prelude.{option_map, string_bytes, unwrap_or}
use Rattle.std.specs.Option.{option_map_or}
use Rattle.std.specs.Str.{bytes_eq}
use Rattle.std.specs.Str.Parse.{digits_value, without_leading_plus}
use Rattle.clap.specs.ValueTests.{is_unsigned_in}
use Rattle.clap.specs.Words.{Row, Text, first_of, one_of}
use Rattle.farm_cli.specs.App.{last_port, most_minutes}
use Rattle.farm_cli.specs.declared.order.Order.{Order}
use Rattle.farm_cli.specs.declared.order.Order.TheVariants.{Once, Init, Migrate, Import, Serve}
use Rattle.farm_cli.specs.declared.order.Order.TheVariants as order
use Rattle.farm_cli.specs.declared.order.Database.{Database}
use Rattle.farm_cli.specs.declared.order.Database.TheVariants.{Memory, File}
use Rattle.farm_cli.specs.declared.order.Report.{Report}
use Rattle.farm_cli.specs.declared.order.Report.TheVariants.{Queue, Boards, Reservations}

-- ---- an order, with its texts as bytes

pub data Form : Type 0 where
  -- the file, or none for memory, and the moment
  once : Option Text → ℕ → Form
  -- the file
  init : Text → Form
  -- the file
  migrate : Text → Form
  -- the file, the moment and the lab file
  import : Text → ℕ → Text → Form
  -- the file, the port and the number of connections
  serve : Text → ℕ → ℕ → Form
  -- the file, the minutes east and west, and the report
  report : Text → ℕ → ℕ → Report → Form

abbrev pub database_form : Database → Option Text
database_form Memory = None
database_form (File file) = Some (string_bytes file)

abbrev pub form_of : Order → Form
form_of (Once database at) = once (database_form database) at
form_of (Init file) = init (string_bytes file)
form_of (Migrate file) = migrate (string_bytes file)
form_of (Import file at lab) = import (string_bytes file) at (string_bytes lab)
form_of (Serve file port max) = serve (string_bytes file) port max
form_of (order.Report file east west which) = report (string_bytes file) east west which

-- a port that can be listened on, and offsets of at most fourteen hours
abbrev pub IsInBounds : Form → Type 0
IsInBounds (serve file port max) = (1 ≤ port) × (port ≤ last_port)
IsInBounds (report file east west which) = (east ≤ most_minutes) × (west ≤ most_minutes)
IsInBounds _ = ⊤

-- ---- the values of a subcommand

-- a flag was given
abbrev pub has_flag : Text → List Row → Bool
has_flag id rows = option_map_or (λ text. bytes_eq text (codes "true")) (one_of id rows) false

-- the `u64` that a text writes in decimal digits
abbrev pub u64_in : Text → Option ℕ
u64_in text = if is_unsigned_in 0 18446744073709551615 text
    then Some (digits_value 10 (without_leading_plus text)) else None

-- the number that an argument has
abbrev pub argument_number : Text → List Row → Option ℕ
argument_number id rows = option_and_then u64_in (one_of id rows)

-- just one of `--memory` and `--db FILE`
abbrev pub database_in : List Row → Option (Option Text)
database_in rows = if has_flag (codes "memory") rows
    then (if is_some (first_of (codes "db") rows) then None else Some None)
    else option_map (λ file. Some file) (first_of (codes "db") rows)

-- a port that can be listened on
abbrev pub port_of : ℕ → Option ℕ
port_of n = if nat_le 1 n && nat_le n last_port then Some n else None

abbrev pub port_in : List Row → Option ℕ
port_in rows = option_and_then port_of (argument_number (codes "port") rows)

-- the report of this name
abbrev pub report_of : Text → Option Report
report_of name = if bytes_eq name (codes "queue") then Some Queue
    else (if bytes_eq name (codes "boards") then Some Boards
    else (if bytes_eq name (codes "reservations") then Some Reservations else None))

abbrev pub which_in : List Row → Option Report
which_in rows = option_and_then report_of (first_of (codes "which") rows)

-- an offset of at most fourteen hours
abbrev pub offset_of : ℕ → Option ℕ
offset_of n = if nat_le n most_minutes then Some n else None

-- the minutes of an offset, 0 where it wasn't given
abbrev pub minutes_in : Text → List Row → Option ℕ
minutes_in id rows = offset_of (unwrap_or (argument_number id rows) 0)

-- ---- the order of each subcommand

abbrev pub once_in : List Row → Option Form
once_in rows = option_and_then (λ database. option_map (λ at. once database at)
    (argument_number (codes "at") rows)) (database_in rows)

abbrev pub import_in : List Row → Option Form
import_in rows = option_and_then (λ file. option_and_then (λ at. option_map (λ lab.
    import file at lab) (first_of (codes "lab") rows)) (argument_number (codes "at") rows))
    (first_of (codes "db") rows)

abbrev pub serve_in : List Row → Option Form
serve_in rows = option_and_then (λ file. option_and_then (λ port. option_map (λ max.
    serve file port max) (argument_number (codes "max") rows)) (port_in rows))
    (first_of (codes "db") rows)

abbrev pub report_in : List Row → Option Form
report_in rows = option_and_then (λ file. option_and_then (λ east. option_and_then (λ west.
    option_map (λ which. report file east west which) (which_in rows))
    (minutes_in (codes "west") rows)) (minutes_in (codes "east") rows)) (first_of (codes "db") rows)

-- the order of a subcommand with its values
abbrev pub order_named : Text → List Row → Option Form
order_named name rows = if bytes_eq name (codes "once") then once_in rows
    else (if bytes_eq name (codes "init") then option_map (λ file. init file) (first_of (codes "db") rows)
    else (if bytes_eq name (codes "migrate") then option_map (λ file. migrate file) (first_of (codes "db") rows)
    else (if bytes_eq name (codes "import") then import_in rows
    else (if bytes_eq name (codes "serve") then serve_in rows
    else (if bytes_eq name (codes "report") then report_in rows else None)))))

-- the same where there is a subcommand at all
abbrev pub order_in : Option (Text × List Row) → Option Form
order_in = option_and_then (λ p. order_named p.0 p.1)
