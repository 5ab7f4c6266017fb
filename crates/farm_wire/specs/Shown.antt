-- The JSON of answers (RFC 8259). Keys stand in byte order.
use Rattle.std.specs.Prelude.{ℕ, ◌==◌, Bool, unwrap_or, List, [], ◌∷◌, map, codes, Option, if◌then◌else◌}
use Rattle.std.specs.Option.{option_map}
use Rattle.serde_json.specs.Data.{Data, number, unsigned, string, array, object, Members, member, no_members}
use Rattle.serde_json.specs.View.{items_of}
use Rattle.farm_types.specs.Names.{claim_word, every_of, health_word, holder_text, job_state_word, outcome_word, refusal_text, res_state_word, state_word}
use Rattle.farm_types.specs.Names.{unit_of, unit_word}
use Rattle.farm_types.specs.declared.claims.Claim.{Claim}
use Rattle.farm_types.specs.declared.claims.Status.{Status}
use Rattle.farm_types.specs.declared.rows.BoardRow.{BoardRow}
use Rattle.farm_types.specs.declared.rows.JobRow.{JobRow}
use Rattle.farm_types.specs.declared.rows.Reply.{Reply}
use Rattle.farm_types.specs.declared.rows.ResRow.{ResRow}
use Rattle.farm_types.specs.declared.rows.TypeRow.{TypeRow}

-- an object with these members
abbrev pub object_members : List (List ℕ × Data) → Members
object_members [] = no_members
object_members (m ∷ ms) = member m.0 m.1 (object_members ms)

abbrev pub fields : List (List ℕ × Data) → Data
fields ms = object (object_members ms)

abbrev pub count : ℕ → Data
count n = number (unsigned n)

abbrev pub texts : List (List ℕ) → Data
texts ts = array (items_of (map string ts))

-- an object whose one member is a list
abbrev pub listing : List ℕ → List Data → Data
listing key rows = fields ((key, array (items_of rows)) ∷ [])

-- a reply: three numbers of a pass, which is the command of number 14, and one number of any other
abbrev pub reply_data : ℕ → Reply → Data
reply_data kind reply =
    if kind == 14
    then fields ((codes "checks", count reply.0) ∷ (codes "expired", count reply.1)
    ∷ (codes "served", count reply.2) ∷ [])
    else fields ((codes "number", count reply.0) ∷ [])

abbrev pub refusal_data : ℕ → Data
refusal_data code = fields ((codes "code", count code) ∷ (codes "text", string (refusal_text code)) ∷ [])

abbrev pub type_data : TypeRow → Data
type_data row = fields (
    (codes "check", string (unit_word (unit_of row.check)))
    ∷ (codes "every", count (every_of row.check))
    ∷ (codes "name", string row.name) ∷ [])

abbrev pub board_data : BoardRow → Data
board_data row = fields (
    (codes "health", string (health_word row.health))
    ∷ (codes "holder", string (holder_text row.holder))
    ∷ (codes "jobs_since", count row.jobs_since)
    ∷ (codes "last_check", count row.last_check)
    ∷ (codes "name", string row.name)
    ∷ (codes "state", string (state_word row.state))
    ∷ (codes "tags", texts row.tags)
    ∷ (codes "type", string row.kind) ∷ [])

abbrev pub status_data : Status → Data
status_data status = fields (
    (codes "boards", count status.boards)
    ∷ (codes "clock", count status.clock)
    ∷ (codes "collector", count status.collector)
    ∷ (codes "count", count status.count)
    ∷ (codes "jobs", count status.jobs)
    ∷ (codes "next", count status.next)
    ∷ (codes "reservations", count status.reservations)
    ∷ (codes "types", count status.types) ∷ [])

-- a word that isn't there shows as the empty text
abbrev pub word_or_none : Option (List ℕ) → Data
word_or_none word = string (unwrap_or word [])

-- a claim, with its number of wants
abbrev pub claim_data : Claim → Data
claim_data claim = fields (
    (codes "boards", count claim.boards)
    ∷ (codes "kind", string (claim_word claim.kind))
    ∷ (codes "number", count claim.number)
    ∷ (codes "owner", string claim.owner)
    ∷ (codes "priority", count claim.priority) ∷ [])

abbrev pub res_data : ResRow → Data
res_data row = fields (
    (codes "board", word_or_none row.board)
    ∷ (codes "deadline", count row.deadline)
    ∷ (codes "number", count row.number)
    ∷ (codes "owner", string row.owner)
    ∷ (codes "priority", count row.priority)
    ∷ (codes "state", string (res_state_word row.state))
    ∷ (codes "tags", texts row.want.tags) ∷ [])

abbrev pub job_kind : Bool → List ℕ
job_kind checking = if checking then codes "check" else codes "ordinary"

abbrev pub job_data : JobRow → Data
job_data row = fields (
    (codes "board", word_or_none row.board)
    ∷ (codes "group", count row.group)
    ∷ (codes "kind", string (job_kind row.checking))
    ∷ (codes "number", count row.number)
    ∷ (codes "owner", string row.owner)
    ∷ (codes "priority", count row.priority)
    ∷ (codes "result", word_or_none (option_map outcome_word row.outcome))
    ∷ (codes "role", word_or_none row.role)
    ∷ (codes "state", string (job_state_word row.state))
    ∷ (codes "tags", texts row.want.tags)
    ∷ (codes "text", string row.body)
    ∷ (codes "type", word_or_none row.want.kind) ∷ [])
