-- The parameter of a path: a board's name, or the number of a job or a reservation.
use Rattle.std.specs.Prelude.{ℕ, ◌==◌, ◌&&◌, Bool, false, not, nat_lt, List, [], ◌∷◌, length, drop, Result, Ok, Err, codes, if◌then◌else◌}
use Rattle.std.specs.Char.{is_ascii_digit}
use Rattle.std.specs.List.{before_first, list_all}
use Rattle.std.specs.Str.Parse.{digits_value}
use Rattle.farm_types.specs.Names.{bad_request, numbers_end}
use Rattle.farm_wire.specs.Fields.{name_or}

-- the first segment behind the front of a path
abbrev pub parameter : List ℕ → List ℕ → List ℕ
parameter front path = before_first (λ b. b == 47) (drop (length front) path)

abbrev pub begins_with_zero : List ℕ → Bool
begins_with_zero [] = false
begins_with_zero (x ∷ text) = x == 48

-- digits that begin with 1 to 9
abbrev pub is_number_text : List ℕ → Bool
is_number_text text =
    nat_lt 0 (length text) && (not (begins_with_zero text) && list_all is_ascii_digit text)

-- one to nine digits that begin with 1 to 9
unfoldable pub number_in : List ℕ → Result ℕ ℕ
number_in text =
    if is_number_text text && nat_lt (digits_value 10 text) numbers_end then Ok (digits_value 10 text)
    else Err bad_request

-- the board that a path names, and the job, and the reservation
unfoldable pub board_in : List ℕ → Result (List ℕ) ℕ
board_in path = name_or (parameter (codes "/boards/") path)

unfoldable pub job_in : List ℕ → Result ℕ ℕ
job_in path = number_in (parameter (codes "/jobs/") path)

unfoldable pub reservation_in : List ℕ → Result ℕ ℕ
reservation_in path = number_in (parameter (codes "/reservations/") path)
