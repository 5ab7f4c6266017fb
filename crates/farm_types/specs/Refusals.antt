-- The table of refusals: each number with the HTTP status of its answer, where it has one, and its text.
use Rattle.std.specs.Prelude.{ℕ, ◌==◌, List, [], ◌∷◌, Option, Some, None, codes, if◌then◌else◌}
use Rattle.std.specs.List.{find}
use Rattle.std.specs.Option.{option_map, option_map_or}

-- ---- each refusal and fault by its number

-- of any command
abbrev pub no_memory : ℕ
no_memory = 1

abbrev pub bad_moment : ℕ
bad_moment = 2

abbrev pub forbidden : ℕ
forbidden = 3

abbrev pub full : ℕ
full = 4

-- of words
abbrev pub bad_name : ℕ
bad_name = 5

abbrev pub bad_tag : ℕ
bad_tag = 6

abbrev pub bad_count : ℕ
bad_count = 7

-- of types and boards
abbrev pub no_type : ℕ
no_type = 10

abbrev pub type_exists : ℕ
type_exists = 11

abbrev pub no_board : ℕ
no_board = 12

abbrev pub board_exists : ℕ
board_exists = 13

abbrev pub board_is_held : ℕ
board_is_held = 14

abbrev pub board_is_retired : ℕ
board_is_retired = 15

-- of jobs
abbrev pub no_job : ℕ
no_job = 20

abbrev pub wrong_job_state : ℕ
wrong_job_state = 21

abbrev pub no_such_boards : ℕ
no_such_boards = 22

abbrev pub bad_priority : ℕ
bad_priority = 23

-- of reservations
abbrev pub no_reservation : ℕ
no_reservation = 30

abbrev pub reservation_expired : ℕ
reservation_expired = 31

abbrev pub wrong_reservation_state : ℕ
wrong_reservation_state = 32

-- of keys
abbrev pub key_reused : ℕ
key_reused = 40

abbrev pub bad_key : ℕ
bad_key = 41

-- of requests
abbrev pub bad_request : ℕ
bad_request = 50

abbrev pub too_large : ℕ
too_large = 51

abbrev pub no_route : ℕ
no_route = 52

abbrev pub wrong_method : ℕ
wrong_method = 53

abbrev pub bad_coding : ℕ
bad_coding = 54

-- of the store
abbrev pub store_fault : ℕ
store_fault = 60

abbrev pub closed : ℕ
closed = 61

abbrev pub bad_store : ℕ
bad_store = 62

abbrev pub old_schema : ℕ
old_schema = 63

abbrev pub new_schema : ℕ
new_schema = 64

-- of files
abbrev pub bad_job_file : ℕ
bad_job_file = 70

abbrev pub bad_lab_file : ℕ
bad_lab_file = 71

-- of input and output
abbrev pub read_fault : ℕ
read_fault = 80

abbrev pub write_fault : ℕ
write_fault = 81

-- ---- the table

-- a number, the status of its answer, where it is ever answered over HTTP, and its text
abbrev pub refusal_table : List (ℕ × Option ℕ × List ℕ)
refusal_table =
    (no_memory, Some 503, codes "no memory")
    ∷ (bad_moment, Some 400, codes "bad moment")
    ∷ (forbidden, Some 403, codes "forbidden")
    ∷ (full, Some 409, codes "full")
    ∷ (bad_name, Some 400, codes "bad name")
    ∷ (bad_tag, Some 400, codes "bad tag")
    ∷ (bad_count, Some 400, codes "bad count")
    ∷ (no_type, Some 404, codes "no such type")
    ∷ (type_exists, Some 409, codes "type exists")
    ∷ (no_board, Some 404, codes "no such board")
    ∷ (board_exists, Some 409, codes "board exists")
    ∷ (board_is_held, Some 409, codes "board is held")
    ∷ (board_is_retired, Some 409, codes "board is retired")
    ∷ (no_job, Some 404, codes "no such job")
    ∷ (wrong_job_state, Some 409, codes "wrong job state")
    ∷ (no_such_boards, Some 409, codes "no such boards")
    ∷ (bad_priority, Some 400, codes "bad priority")
    ∷ (no_reservation, Some 404, codes "no such reservation")
    ∷ (reservation_expired, Some 409, codes "reservation expired")
    ∷ (wrong_reservation_state, Some 409, codes "wrong reservation state")
    ∷ (key_reused, Some 409, codes "key reused")
    ∷ (bad_key, Some 400, codes "bad key")
    ∷ (bad_request, Some 400, codes "bad request")
    ∷ (too_large, Some 413, codes "too large")
    ∷ (no_route, Some 404, codes "no such route")
    ∷ (wrong_method, Some 405, codes "wrong method")
    ∷ (bad_coding, Some 501, codes "bad coding")
    ∷ (store_fault, Some 503, codes "store fault")
    ∷ (closed, Some 503, codes "closed")
    ∷ (bad_store, None, codes "bad store")
    ∷ (old_schema, None, codes "old schema")
    ∷ (new_schema, None, codes "new schema")
    ∷ (bad_job_file, Some 400, codes "bad job file")
    ∷ (bad_lab_file, None, codes "bad lab file")
    ∷ (read_fault, None, codes "read fault")
    ∷ (write_fault, None, codes "write fault")
    ∷ []

-- the status and the text of a number, where the table has it
abbrev pub line_of : ℕ → Option (Option ℕ × List ℕ)
line_of code = option_map (λ e. (e.1, e.2)) (find (λ e. e.0 == code) refusal_table)

abbrev pub refusal_text : ℕ → List ℕ
refusal_text code = option_map_or (λ line. line.1) (line_of code) []

abbrev pub http_status_of : ℕ → Option ℕ
http_status_of code = option_map_or (λ line. line.0) (line_of code) None

-- the reason phrase of a status
abbrev pub reason_of : ℕ → List ℕ
reason_of status =
    if status == 200 then codes "OK"
    else if status == 400 then codes "Bad Request"
    else if status == 403 then codes "Forbidden"
    else if status == 404 then codes "Not Found"
    else if status == 405 then codes "Method Not Allowed"
    else if status == 409 then codes "Conflict"
    else if status == 413 then codes "Content Too Large"
    else if status == 501 then codes "Not Implemented"
    else if status == 503 then codes "Service Unavailable"
    else []
