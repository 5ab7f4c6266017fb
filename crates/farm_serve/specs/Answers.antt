-- What is answered to what was asked, its bytes, and what becomes of the keeper.
use Rattle.std.specs.Prelude.{◌≡◌, ℕ, true, List, map, Some, None, Result, Ok, Err}
use Rattle.sqlite_trees.specs.declared.store.Store.{Ghosts}
use Rattle.farm_types.specs.Names.{answer, Answered, Changed, Denied, Farm, job_of, kind_of, no_job, no_memory, queue, Repeated, shown_claim, status_of, step}
use Rattle.farm_types.specs.declared.calls.Call.{Call}
use Rattle.farm_keep.specs.KeeperState.{KeeperState, KeepsOwnFarm}
use Rattle.farm_wire.specs.Reading.{Denial, refused, other_methods}
use Rattle.farm_wire.specs.Replies.{method_status, ok_status, reply_bytes, status_or}
use Rattle.farm_wire.specs.declared.ask.Ask.{Ask}
use Rattle.farm_wire.specs.declared.ask.View.{View}
use Rattle.farm_wire.specs.declared.answers.Out.{Out}
use Rattle.farm_wire.specs.declared.fault.AskFault.{AskFault}
use Rattle.farm_serve.specs.declared.answer.Bytes.{Bytes}
use Rattle.farm_serve.specs.declared.fault.DeskFault.{DeskFault}

-- ---- which answer it is

abbrev pub out_of_refusal : ℕ → Out
out_of_refusal code = Out.Refused (record { code = code })

-- what a denied request is answered
abbrev pub out_of_denial : Denial → Out
out_of_denial (refused code) = out_of_refusal code
out_of_denial (other_methods allowed) = Out.Method allowed

-- the machine's answer to a command of that kind, as it is shown to a caller
abbrev pub out_of_answer : ℕ → Answered → Out
out_of_answer kind (Changed reply) = Out.Reply kind reply
out_of_answer kind (Repeated reply) = Out.Reply kind reply
out_of_answer kind (Denied code) = out_of_refusal code

-- the answer shows what the view asks for, of that farm
abbrev pub IsView : View → Farm → Out → Type 0
IsView View.Types F (Out.Types rows) = rows.now ≡ F.types
IsView View.Boards F (Out.Boards rows) = rows.now ≡ F.boards
IsView View.Reservations F (Out.Reservations rows) = rows.now ≡ F.reservations
IsView View.Queue F (Out.Queue claims) = claims.now ≡ map shown_claim (queue F)
IsView View.Status F (Out.Status status) = status ≡ status_of F
IsView (View.Job number) F (Out.Job job) = job_of F number ≡ Some job.now
IsView (View.Job number) F (Out.Refused refusal) = (job_of F number ≡ None) × (refusal.code ≡ no_job)
IsView view F out = ⊥

-- its HTTP status
abbrev pub http_status : Out → ℕ
http_status (Out.Refused r) = status_or r.code
http_status (Out.Method allowed) = method_status
http_status out = ok_status

-- ---- in bytes

-- these are the bytes of the answer, under this status
pub record Encodes (out : Out) (bytes : List ℕ) (status : ℕ) : Type 0 where
  pub bytes_are : bytes ≡ reply_bytes out
  pub status_is : status ≡ http_status out

abbrev pub bytes_in : Bytes → List ℕ
bytes_in (Bytes.Encoded bytes) = bytes.items
bytes_in (Bytes.Constant bytes) = bytes.now

-- there is no memory for the answer, and the bytes are the refusal for that
pub record EncodesNoMemory (bytes : List ℕ) (fault : DeskFault) : Type 0 where
  pub fault_is : fault ≡ DeskFault.NoMemory
  pub bytes_are : bytes ≡ reply_bytes (out_of_refusal no_memory)

-- the bytes are the answer's, or there is no memory for them
abbrev pub IsEncoded : Out → List ℕ → Result ℕ DeskFault → Type 0
IsEncoded out bytes (Ok status) = Encodes out bytes status
IsEncoded out bytes (Err fault) = EncodesNoMemory bytes fault

-- the bytes are those of one of some answers, or there is no memory for them
abbrev pub IsEncodedOne : (Out → Type 0) → List ℕ → Result ℕ DeskFault → Type 0
IsEncodedOne P bytes (Ok status) = (out : Out) × P out × Encodes out bytes status
IsEncodedOne P bytes (Err fault) = EncodesNoMemory bytes fault

-- the bytes are the answer to a request that asks nothing
abbrev pub IsDenialEncoded : AskFault → List ℕ → Result ℕ DeskFault → Type 0
IsDenialEncoded (AskFault.Refused refusal) bytes end = IsEncoded (Out.Refused refusal) bytes end
IsDenialEncoded (AskFault.Method allowed) bytes end = IsEncoded (Out.Method allowed) bytes end
IsDenialEncoded AskFault.NoMemory bytes end = (end ≡ Err DeskFault.NoMemory)
    × (bytes ≡ reply_bytes (out_of_refusal no_memory))

-- ---- what becomes of the keeper

-- the request is denied, and the keeper stays as it was
pub record AnswersRefusal {S : Type 0} (old new : KeeperState S) (why : Denial) (bytes : List ℕ)
    (status : ℕ) : Type 0 where
  pub encodes : Encodes (out_of_denial why) bytes status
  pub unchanged : new ≡ old

-- the call is done: the answer is the machine's, the farm is the machine's, and the store stands
-- for it
pub record Does {S : Type 0} (g : Ghosts S) (old new : KeeperState S) (call : Call) (bytes : List ℕ)
    (status : ℕ) : Type 0 where
  pub was_open : old.is_open ≡ true
  pub stays_open : new.is_open ≡ true
  pub encodes : Encodes (out_of_answer (kind_of call.cmd) (answer old.farm.farm call)) bytes status
  pub farm : new.farm.farm ≡ step old.farm.farm call
  pub keeps : KeepsOwnFarm g old → KeepsOwnFarm g new

-- the view is shown, and the keeper stays as it was
pub record ShowsView {S : Type 0} (old new : KeeperState S) (view : View) (bytes : List ℕ)
    (status : ℕ) : Type 0 where
  pub was_open : old.is_open ≡ true
  pub out : Out
  pub shows : IsView view old.farm.farm out
  pub encodes : Encodes out bytes status
  pub unchanged : new ≡ old

-- what was asked is answered
abbrev pub Answers : {S : Type 0} → Ghosts S → KeeperState S → KeeperState S → Result Ask Denial
    → List ℕ → ℕ → Type 0
Answers g old new (Err why) bytes status = AnswersRefusal old new why bytes status
Answers g old new (Ok (Ask.Call call)) bytes status = Does g old new call bytes status
Answers g old new (Ok (Ask.View view)) bytes status = ShowsView old new view bytes status
