-- The bytes of an answer (RFC 9112): a status line, fields, and JSON.
use Rattle.std.specs.Prelude.{ℕ, List, [], ◌++◌, length, map, codes, decimal, unwrap_or}
use Rattle.serde_json.specs.Data.{Data}
use Rattle.serde_json.specs.Written.{compact_text}
use Rattle.farm_types.specs.Names.{http_status_of, reason_of, wrong_method}
use Rattle.farm_wire.specs.Routes.{allow_text}
use Rattle.farm_wire.specs.Shown.{listing, reply_data, refusal_data, type_data, board_data, claim_data, res_data, job_data, status_data}
use Rattle.farm_wire.specs.declared.answers.Allowed.{Allowed}
use Rattle.farm_wire.specs.declared.answers.Out.{Out}

-- the statuses of an answer that is no refusal, of a wrong method, and of a fault that the table of refusals gives none
abbrev pub ok_status : ℕ
ok_status = 200

abbrev pub method_status : ℕ
method_status = 405

abbrev pub unavailable_status : ℕ
unavailable_status = 503

-- the head of an answer, with further fields and the length of its body
abbrev pub head_text : ℕ → List ℕ → ℕ → List ℕ
head_text status more len =
    codes "HTTP/1.1 " ++ (decimal status ++ (codes " " ++ (reason_of status
    ++ (codes "\r\ncontent-type: application/json\r\ncontent-length: " ++ (decimal len
    ++ (codes "\r\nconnection: close\r\n" ++ (more ++ codes "\r\n")))))))

-- a head, and the body that it declares
abbrev pub answer_text : ℕ → List ℕ → List ℕ → List ℕ
answer_text status more body = head_text status more (length body) ++ body

-- an answer without further fields
abbrev pub plain_answer : ℕ → Data → List ℕ
plain_answer status json = answer_text status [] (compact_text json)

-- the status of a refusal
abbrev pub status_or : ℕ → ℕ
status_or code = unwrap_or (http_status_of code) unavailable_status

-- a wrong method, with a field that names the right ones
abbrev pub method_text : Allowed → List ℕ
method_text allowed =
    answer_text method_status (codes "allow: " ++ (allow_text allowed ++ codes "\r\n"))
    (compact_text (refusal_data wrong_method))

-- the bytes of an answer
unfoldable pub reply_bytes : Out → List ℕ
reply_bytes (Out.Reply kind reply) = plain_answer ok_status (reply_data kind reply)
reply_bytes (Out.Refused refusal) = plain_answer (status_or refusal.code) (refusal_data refusal.code)
reply_bytes (Out.Method allowed) = method_text allowed
reply_bytes (Out.Types rows) = plain_answer ok_status (listing (codes "types") (map type_data rows.now))
reply_bytes (Out.Boards rows) = plain_answer ok_status (listing (codes "boards") (map board_data rows.now))
reply_bytes (Out.Queue claims) = plain_answer ok_status (listing (codes "queue") (map claim_data claims.now))
reply_bytes (Out.Reservations rows) =
    plain_answer ok_status (listing (codes "reservations") (map res_data rows.now))
reply_bytes (Out.Job row) = plain_answer ok_status (job_data row.now)
reply_bytes (Out.Status status) = plain_answer ok_status (status_data status)
