-- What the program does with its words.
use Rattle.std.specs.Prelude.{◌≡◌, ◌⊎◌, ℕ, [], List, Option, Some, Result, Ok, Err, IfOk, IfErr, Bool, true, false, string_bytes}
use Rattle.std.specs.Io.KnownBytes.{Keeps}
use Rattle.clap.specs.Words.{Text, fault_of, subcommand_of}
use Rattle.farm_cli.specs.App.{farm_app}
use Rattle.farm_cli.specs.Faults.{IsFaultAmong}
use Rattle.farm_cli.specs.Orders.{form_of, order_in}
use Rattle.farm_cli.specs.declared.fault.OrderFault.{OrderFault}
use Rattle.farm_cli.specs.declared.order.Order.{Order}
use Rattle.farm_serve.specs.Ends.{Writes}
use Rattle.farm_serve.specs.Faults.{desk_fault_code}
use Rattle.farm_desk.specs.Faults.{done, exit_status, order_status, wrong_words}
use Rattle.farm_desk.specs.Lines.{WritesPart, fault_line, error_line}
use Rattle.farm_desk.specs.Orders.{Streams}
use Rattle.farm_serve.specs.declared.fault.DeskFault.{DeskFault}
use Rattle.farm_desk.specs.declared.orders.End.{End}

-- words without a fault are read as the order that they name, and others as a fault of theirs
pub record IsReadOf (words : List Text) (read : Result Order OrderFault) : Type 0 where
  pub order : IfOk read (λ order. Some (form_of order) ≡ order_in (subcommand_of farm_app words))
  pub faultless : IfOk read (λ order. fault_of farm_app words ≡ [])
  pub fault : IfErr read (IsFaultAmong (fault_of farm_app words) (subcommand_of farm_app words))

-- an order did what it does with such an end: the exit status is that of this end, and so is what
-- is printed beside the output
pub record EndsOrder (Does : Result End DeskFault → Type 0) (held holds : Option (List ℕ))
    (status : ℕ) : Type 0 where
  pub ended : Result End DeskFault
  pub does : Does ended
  pub status_is : status ≡ order_status ended
  pub printed : WritesPart held holds (error_line ended)

-- a fault is printed, and the exit status is its own
pub record PrintsFault (held holds : Option (List ℕ)) (fault : DeskFault) (status : ℕ) : Type 0 where
  pub status_is : status ≡ exit_status fault
  pub printed : WritesPart held holds (fault_line (desk_fault_code fault))

module _ (Room ErrorsRoom : ℕ → Type 0) where
  -- how the program ends where the words name no order; the output and the errors have such room.
  -- Help is on the output, and nothing beside it; or the output had no room for it, and that fault
  -- is printed. What is wrong with the words is printed, or for want of room a part of it
  abbrev pub EndsUnread : OrderFault → Option (List ℕ) → Option (List ℕ) → Option (List ℕ)
      → Option (List ℕ) → ℕ → Type 0
  EndsUnread (OrderFault.Help text) held holds errors_held errors_hold status =
      ((status ≡ done) × Writes Room false held holds (string_bytes text)
      × Keeps errors_held errors_hold)
      ⊎ (Writes Room true held holds (string_bytes text)
      × PrintsFault errors_held errors_hold DeskFault.Write status)
  EndsUnread (OrderFault.Words text) held holds errors_held errors_hold status =
      (status ≡ wrong_words) × Keeps held holds × (failed : Bool)
      × Writes ErrorsRoom failed errors_held errors_hold (string_bytes text)
  EndsUnread OrderFault.NoMemory held holds errors_held errors_hold status =
      Keeps held holds × PrintsFault errors_held errors_hold DeskFault.NoMemory status

  -- how the program ends, by what was read of its words and by what an order does with its end: the
  -- input and the output before and then, what the errors hold before and then, and the exit status
  abbrev pub EndsAsRead : (Order → Result End DeskFault → Type 0) → Result Order OrderFault → Streams
      → Streams → Option (List ℕ) → Option (List ℕ) → ℕ → Type 0
  EndsAsRead Does (Ok order) old new errors_held errors_hold status =
      EndsOrder (Does order) errors_held errors_hold status
  EndsAsRead Does (Err fault) old new errors_held errors_hold status = (new.input ≡ old.input)
      × EndsUnread fault old.output new.output errors_held errors_hold status
