-- The program's exit statuses.
use Rattle.std.specs.Prelude.{◌==◌, ℕ, Result, Ok, Err, if◌then◌else◌, ◌≡◌, [], ◌∷◌}
use Rattle.farm_jobfile.specs.declared.fault.FileFault.{FileFault}
use Rattle.farm_wire.specs.Replies.{ok_status}
use Rattle.farm_keep.specs.declared.fault.KeepFault.{KeepFault}
use Rattle.farm_serve.specs.declared.fault.DeskFault.{DeskFault}
use Rattle.farm_desk.specs.declared.orders.End.{End}
use Rattle.farm_desk.specs.declared.command_line.TheConstants.{DONE, FAILED, OUT_OF_MEMORY, REFUSED, WRONG_WORDS}

-- the order was carried out
abbrev pub done : ℕ
done = 0

-- the words name no order
abbrev pub wrong_words : ℕ
wrong_words = 2

-- the request was refused, or the lab file
abbrev pub refused : ℕ
refused = 3

-- the store, the input, the output or the listener failed
abbrev pub failed : ℕ
failed = 4

-- there was no memory
abbrev pub out_of_memory : ℕ
out_of_memory = 5

-- want of memory has a status of its own, and so has a file that is refused
abbrev pub exit_status : DeskFault → ℕ
exit_status DeskFault.NoMemory = out_of_memory
exit_status (DeskFault.Keep KeepFault.NoMemory) = out_of_memory
exit_status (DeskFault.File FileFault.NoMemory) = out_of_memory
exit_status (DeskFault.File fault) = refused
exit_status fault = failed

-- a request that was answered with this HTTP status
abbrev pub end_of : ℕ → End
end_of status = if status == ok_status then End.Done else End.Refused

-- how the order ends that answers one request
abbrev pub ended_order : Result ℕ DeskFault → Result End DeskFault
ended_order (Ok status) = Ok (end_of status)
ended_order (Err fault) = Err fault

-- the exit status of an order
abbrev pub order_status : Result End DeskFault → ℕ
order_status (Ok End.Done) = done
order_status (Ok End.Refused) = refused
order_status (Ok (End.RefusedAt place refusal)) = refused
order_status (Err fault) = exit_status fault

abbrev pub ExitStatusesAgree : Type 0
ExitStatusesAgree = (DONE ∷ WRONG_WORDS ∷ REFUSED ∷ FAILED ∷ OUT_OF_MEMORY ∷ [])
    ≡ (done ∷ wrong_words ∷ refused ∷ failed ∷ out_of_memory ∷ [])
