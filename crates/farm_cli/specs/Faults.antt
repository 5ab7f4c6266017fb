-- What a fault says of the words.
use Rattle.std.specs.Prelude.{◌≡◌, ◌≢◌, ◌⊎◌, [], List, None, Option, false, ⊤, codes, if◌then◌else◌, string_bytes}
use Rattle.std.specs.Option.{option_map_or}
use Rattle.std.specs.Str.{bytes_eq}
use Rattle.clap.specs.Words.{IsAmong, Kinds, Row, Text}
use Rattle.clap.specs.declared.error.kind.ErrorKind.{ErrorKind}
use Rattle.clap.specs.declared.error.kind.ErrorKind.TheVariants.{DisplayHelp, DisplayVersion, OutOfMemory}
use Rattle.farm_cli.specs.Orders.{order_in}
use Rattle.farm_cli.specs.declared.fault.OrderFault.{OrderFault}
use Rattle.farm_cli.specs.declared.fault.OrderFault.TheVariants.{Help, Words, NoMemory}

-- help or the version was asked for
abbrev pub IsAnswer : ErrorKind → Type 0
IsAnswer kind = (kind ≡ DisplayHelp) ⊎ (kind ≡ DisplayVersion)

-- the fault that an error of this kind is, where memory doesn't run out over its text
abbrev pub IsOfKind : ErrorKind → OrderFault → Type 0
IsOfKind kind (Help text) = IsAnswer kind
IsOfKind kind (Words text) = (kind ≢ OutOfMemory) × (IsAnswer kind → ⊥)
IsOfKind kind NoMemory = ⊤

-- what is reported of `once` with neither or both of `--memory` and `--db`
abbrev pub no_place : Text
no_place = codes "error: exactly one of '--memory' and '--db <FILE>' has to be provided\n\nUsage: farm once <--memory|--db <FILE>> --at <SECONDS>\n\nFor more information, try '--help'.\n"

-- and of `report` of something that is no report
abbrev pub no_report : Text
no_report = codes "error: invalid value for '<WHICH>'\n  [possible values: queue, boards, reservations]\n\nFor more information, try '--help'.\n"

-- what is reported of a choice that is left open
abbrev pub open_text : Option (Text × List Row) → Text
open_text named =
    if option_map_or (λ p. bytes_eq p.0 (codes "once")) named false then no_place else no_report

-- a fault of words that may give errors of these kinds and name this subcommand: a text to print
-- where help or the version is asked for, and else what is wrong with them, be it a choice that
-- they leave open, which is reported
abbrev pub IsFaultAmong : Kinds → Option (Text × List Row) → OrderFault → Type 0
IsFaultAmong kinds named (Help text) = (kind : ErrorKind) × IsAmong kind kinds × IsAnswer kind
IsFaultAmong kinds named (Words text) =
    ((kind : ErrorKind) × IsAmong kind kinds × (IsAnswer kind → ⊥))
    ⊎ ((kinds ≡ []) × (order_in named ≡ None) × (string_bytes text ≡ open_text named))
IsFaultAmong kinds named NoMemory = ⊤
