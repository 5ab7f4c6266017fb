-- The refusals that the code names are the numbers of the definitions.
use Rattle.std.specs.Prelude.{◌≡◌, [], ◌∷◌}
use Rattle.farm_types.specs.Refusals.{no_memory, bad_moment, forbidden, full, bad_name, bad_tag, bad_count, no_type, type_exists, no_board, board_exists}
use Rattle.farm_types.specs.Refusals.{board_is_held, board_is_retired, no_job, wrong_job_state, no_such_boards, bad_priority, no_reservation}
use Rattle.farm_types.specs.Refusals.{reservation_expired, wrong_reservation_state, key_reused, bad_key, bad_request, too_large, no_route, wrong_method}
use Rattle.farm_types.specs.Refusals.{bad_coding, store_fault, closed, bad_store, old_schema, new_schema, bad_job_file, bad_lab_file, read_fault, write_fault}
use Rattle.farm_types.specs.declared.refusal.TheConstants.{NO_MEMORY, BAD_MOMENT, FORBIDDEN, FULL, BAD_NAME, BAD_TAG, BAD_COUNT, NO_TYPE, TYPE_EXISTS, NO_BOARD}
use Rattle.farm_types.specs.declared.refusal.TheConstants.{BOARD_EXISTS, HELD, RETIRED, NO_JOB, WRONG_STATE, NO_SUCH_BOARDS, BAD_PRIORITY, NO_RESERVATION}
use Rattle.farm_types.specs.declared.refusal.TheConstants.{EXPIRED, WRONG_RESERVATION_STATE, KEY_REUSED, BAD_KEY, BAD_REQUEST, TOO_LARGE, NO_ROUTE}
use Rattle.farm_types.specs.declared.refusal.TheConstants.{WRONG_METHOD, BAD_CODING, STORE, CLOSED, BAD_STORE, OLD_SCHEMA, NEW_SCHEMA, BAD_JOB_FILE}
use Rattle.farm_types.specs.declared.refusal.TheConstants.{BAD_LAB_FILE, READ, WRITE}

abbrev pub RefusalsAgree : Type 0
RefusalsAgree =
    (
    NO_MEMORY ∷ BAD_MOMENT ∷ FORBIDDEN ∷ FULL ∷ BAD_NAME ∷ BAD_TAG ∷ BAD_COUNT ∷ NO_TYPE
    ∷ TYPE_EXISTS ∷ NO_BOARD ∷ BOARD_EXISTS ∷ HELD ∷ RETIRED ∷ NO_JOB ∷ WRONG_STATE
    ∷ NO_SUCH_BOARDS ∷ BAD_PRIORITY ∷ NO_RESERVATION ∷ EXPIRED ∷ WRONG_RESERVATION_STATE
    ∷ KEY_REUSED ∷ BAD_KEY ∷ BAD_REQUEST ∷ TOO_LARGE ∷ NO_ROUTE ∷ WRONG_METHOD ∷ BAD_CODING ∷ STORE
    ∷ CLOSED ∷ BAD_STORE ∷ OLD_SCHEMA ∷ NEW_SCHEMA ∷ BAD_JOB_FILE ∷ BAD_LAB_FILE ∷ READ ∷ WRITE ∷ [])
    ≡ (
    no_memory ∷ bad_moment ∷ forbidden ∷ full ∷ bad_name ∷ bad_tag ∷ bad_count ∷ no_type
    ∷ type_exists ∷ no_board ∷ board_exists ∷ board_is_held ∷ board_is_retired ∷ no_job
    ∷ wrong_job_state ∷ no_such_boards ∷ bad_priority ∷ no_reservation ∷ reservation_expired
    ∷ wrong_reservation_state ∷ key_reused ∷ bad_key ∷ bad_request ∷ too_large ∷ no_route
    ∷ wrong_method ∷ bad_coding ∷ store_fault ∷ closed ∷ bad_store ∷ old_schema ∷ new_schema
    ∷ bad_job_file ∷ bad_lab_file ∷ read_fault ∷ write_fault ∷ [])
