-- Conversations one after another over one keeper: what they ask, what they do, what they answer.
use Rattle.std.specs.Prelude.{◌≡◌, ◌≢◌, ◌⊎◌, ℕ, true, false, IsOk, List, [], ◌∷◌, ◌++◌, map, Option, Some, Result, Ok, Err}
use Rattle.std.specs.List.{AllByRecursion, flat_map}
use Rattle.sqlite_trees.specs.declared.store.Store.{Ghosts}
use Rattle.farm_types.specs.Names.{answer, Changed, Farm, kind_of, run}
use Rattle.farm_types.specs.declared.calls.Call.{Call}
use Rattle.farm_types.specs.declared.rows.Reply.{Reply}
use Rattle.farm_core.specs.Answers.{IsChange}
use Rattle.farm_keep.specs.KeeperState.{KeeperState, KeepsOwnFarm, KeepsEither}
use Rattle.farm_keep.specs.Restarts.{answer_again}
use Rattle.farm_keep.specs.declared.fault.KeepFault.{KeepFault}
use Rattle.farm_http.specs.Room.{RoomLeft}
use Rattle.farm_wire.specs.Reading.{Denial}
use Rattle.farm_wire.specs.declared.ask.Ask.{Ask}
use Rattle.farm_wire.specs.declared.answers.Out.{Out}
use Rattle.farm_serve.specs.Received.{Asks, Receives}
use Rattle.farm_serve.specs.Answers.{Encodes, IsView, out_of_denial, out_of_answer}
use Rattle.farm_serve.specs.Response.{IsResponse}
use Rattle.farm_serve.specs.Ends.{IsAnswered, IsUnwritten, IsUnread, EndsWritten, HasNoRoom}
use Rattle.farm_serve.specs.Serving.{LeavesAfter, Reaches}
use Rattle.farm_serve.specs.declared.fault.DeskFault.{DeskFault}

-- ---- one conversation, and several in a row

-- what a conversation changes: a keeper, what is left of an input, and what an output holds
pub record Desk (S : Type 0) : Type 0 where
  pub keeper : KeeperState S
  pub input : Option (List ℕ)
  pub output : Option (List ℕ)

-- a conversation at this moment ends so
pub record Converses {S : Type 0} (g : Ghosts S) (old new : Desk S) (now : ℕ)
    (end : Result ℕ DeskFault) : Type 0 where
  pub answered : EndsWritten end
      → IsAnswered (IsResponse g old.keeper new.keeper old.input new.input now) old.output new.output end
  pub unwritten : end ≡ Err DeskFault.Write
      → IsUnwritten (IsResponse g old.keeper new.keeper old.input new.input now) old.output new.output
  pub unread : end ≡ Err DeskFault.Read → IsUnread old.keeper new.keeper old.output new.output

-- with a reader that never fails a conversation doesn't end as unread, and with a writer that has
-- room for the answer that is due it doesn't end as unwritten
pub record IsComplete {S : Type 0} (g : Ghosts S) (old new : Desk S) (now : ℕ) (Sure : Type 0)
    (Room : ℕ → Type 0) (end : Result ℕ DeskFault) : Type 0 where
  pub received : Sure → end ≢ Err DeskFault.Read
  pub answered : end ≡ Err DeskFault.Write
      → HasNoRoom (IsResponse g old.keeper new.keeper old.input new.input now) Room

-- one conversation at this moment, however it ends
pub record ConversesOnce {S : Type 0} (g : Ghosts S) (old new : Desk S) (now : ℕ) (Sure : Type 0)
    (Room : ℕ → Type 0) : Type 0 where
  pub end : Result ℕ DeskFault
  pub converses : Converses g old new now end
  pub complete : IsComplete g old new now Sure Room end

-- the moment of a conversation, and how it ends
pub record Conversation : Type 0 where
  pub now : ℕ
  pub end : Result ℕ DeskFault

-- each conversation begins where the one before it ended
abbrev pub ConverseInTurn : {S : Type 0} → Ghosts S → List Conversation → Desk S → Desk S → Type 0
ConverseInTurn {S} g [] old new = new ≡ old
ConverseInTurn {S} g (conversation ∷ conversations) old new =
    (next : Desk S) × Converses g old next conversation.now conversation.end
    × ConverseInTurn g conversations next new

-- those of the first list lead to a desk, and those of the second list on from it
abbrev pub ConverseApart : {S : Type 0} → Ghosts S → List Conversation → List Conversation → Desk S
    → Desk S → Type 0
ConverseApart {S} g first second old new =
    (between : Desk S) × ConverseInTurn g first old between × ConverseInTurn g second between new

-- these three are a desk
abbrev pub desk : {S : Type 0} → KeeperState S → Option (List ℕ) → Option (List ℕ) → Desk S
desk keeper input output = record { keeper = keeper; input = input; output = output }

-- one conversation at each of these moments, and each is answered
pub record AnswersAll {S : Type 0} (g : Ghosts S) (old new : Desk S) (moments : List ℕ)
    : Type 0 where
  pub conversations : List Conversation
  pub at_moments : map (λ conversation. conversation.now) conversations ≡ moments
  pub answered : AllByRecursion (λ conversation. IsOk conversation.end) conversations
  pub in_turn : ConverseInTurn g conversations old new

-- the conversations at the first moments are answered, and the next ends with this fault: as unread
-- only where the reader may fail, as unwritten only where its answer doesn't fit the room that the
-- answers before it left
pub record StopsAt {S : Type 0} (g : Ghosts S) (old new : Desk S) (moments : List ℕ) (Sure : Type 0)
    (Room : ℕ → Type 0) (fault : DeskFault) : Type 0 where
  pub done : List ℕ
  pub last : ℕ
  pub left : List ℕ
  pub moments_are : moments ≡ done ++ last ∷ left
  pub between : Desk S
  pub answers : AnswersAll g old between done
  pub stops : Converses g between new last (Err fault)
  pub complete : IsComplete g between new last Sure (RoomLeft Room old.output between.output)
      (Err fault)

-- ---- where each of them is answered

-- a request and its answer: when it came, its bytes, what they ask, what is answered, the bytes of
-- that, and their status
pub record Exchange : Type 0 where
  pub now : ℕ
  pub request : List ℕ
  pub asked : Result Ask Denial
  pub out : Out
  pub answer : List ℕ
  pub status : ℕ

abbrev pub conversation_of : Exchange → Conversation
conversation_of x = record { now = x.now; end = Ok x.status }

-- the call that is asked, if it is one
abbrev pub call_asked : Result Ask Denial → List Call
call_asked (Ok (Ask.Call call)) = call ∷ []
call_asked asked = []

-- the calls that are asked, in the order of the requests
abbrev pub calls_of : List Exchange → List Call
calls_of exchanges = flat_map (λ x. call_asked x.asked) exchanges

-- the machine's answer of that farm to what is asked
abbrev pub IsMachineAnswer : Farm → Result Ask Denial → Out → Type 0
IsMachineAnswer F (Err why) out = out ≡ out_of_denial why
IsMachineAnswer F (Ok (Ask.Call call)) out = out ≡ out_of_answer (kind_of call.cmd) (answer F call)
IsMachineAnswer F (Ok (Ask.View view)) out = IsView view F out

-- each has the machine's answer of the farm after the calls before it
abbrev pub AreAnswered : Farm → List Exchange → Type 0
AreAnswered F [] = Unit {0}
AreAnswered F (x ∷ xs) =
    IsMachineAnswer F x.asked x.out × Encodes x.out x.answer x.status
    × AreAnswered (run F (call_asked x.asked)) xs

-- the requests stand at the front of the input, one behind another, and each asks what is said of
-- it at its moment
abbrev pub AreReceived : List ℕ → List Exchange → Type 0
AreReceived input [] = Unit {0}
AreReceived input (x ∷ xs) =
    (rest : List ℕ) × (input ≡ x.request ++ rest) × Asks x.request (x.request ≡ input) x.now x.asked
    × AreReceived rest xs

-- the conversations are these exchanges: the requests left the input and the answers were written,
-- in order; each is the machine's at its place; the keeper has the farm after the calls that were
-- asked, and its store keeps that farm
pub record ActAsRun {S : Type 0} (g : Ghosts S) (conversations : List Conversation) (old new : Desk S)
    (input held : List ℕ) (exchanges : List Exchange) : Type 0 where
  pub rest : List ℕ
  pub each : map conversation_of exchanges ≡ conversations
  pub left : new.input ≡ Some rest
  pub taken : input ≡ flat_map (λ x. x.request) exchanges ++ rest
  pub received : AreReceived input exchanges
  pub answers : AreAnswered old.keeper.farm.farm exchanges
  pub written : new.output ≡ Some (held ++ flat_map (λ x. x.answer) exchanges)
  pub reaches : Reaches g old.keeper new.keeper (calls_of exchanges)

-- answered conversations over a known input and a known output are one run of the machine
abbrev pub AnsweredActAsRun : {S : Type 0} → Ghosts S → Type 0
AnsweredActAsRun {S} g = (conversations : List Conversation) (old new : Desk S) (input held : List ℕ)
    → old.input ≡ Some input → old.output ≡ Some held
    → AllByRecursion (λ conversation. IsOk conversation.end) conversations
    → ConverseInTurn g conversations old new
    → (exchanges : List Exchange) × ActAsRun g conversations old new input held exchanges

-- ---- a request that is sent again

-- two requests somewhere among the exchanges ask calls under one key of one caller, and the first
-- of them is accepted
pub record IsSentAgain (F : Farm) (before between after : List Exchange) (first second : Exchange)
    (call repeated : Call) (key : List ℕ) (reply : Reply) : Type 0 where
  pub answers : AreAnswered F (before ++ first ∷ (between ++ second ∷ after))
  pub asks : first.asked ≡ Ok (Ask.Call call)
  pub asks_again : second.asked ≡ Ok (Ask.Call repeated)
  pub keyed : call.key ≡ Some key
  pub same_key : repeated.key ≡ Some key
  pub same_caller : repeated.caller ≡ call.caller
  pub accepted : answer (run F (calls_of before)) call ≡ Changed reply

-- the second gets the kept reply, or is refused for its key or its moment
abbrev pub IsAnsweredAgain : Type 0
IsAnsweredAgain = (F : Farm) (before between after : List Exchange) (first second : Exchange)
    (call repeated : Call) (key : List ℕ) (reply : Reply)
    → IsSentAgain F before between after first second call repeated key reply
    → second.out ≡ out_of_answer (kind_of repeated.cmd) (answer_again call reply repeated)

-- ---- however they end

-- the bytes that left the reader ask these calls: one, or none
pub record AsksCalls (input rest : Option (List ℕ)) (now : ℕ) (calls : List Call) : Type 0 where
  pub asked : Result Ask Denial
  pub receives : Receives input rest now asked
  pub spelt : calls ≡ call_asked asked

-- a conversation that was answered did the calls that its bytes ask; another did these, or none
abbrev pub DoesAsked : Option (List ℕ) → Option (List ℕ) → ℕ → Result ℕ DeskFault → List Call
    → Type 0
DoesAsked input rest now (Ok status) done = AsksCalls input rest now done
DoesAsked input rest now (Err fault) done = (done ≡ []) ⊎ AsksCalls input rest now done

-- a conversation does these calls and leaves the keeper open
pub record LeavesOpen {S : Type 0} (g : Ghosts S) (old new : Desk S) (conversation : Conversation)
    (done : List Call) : Type 0 where
  pub does : DoesAsked old.input new.input conversation.now conversation.end done
  pub is_open : new.keeper.is_open ≡ true
  pub farm : new.keeper.farm.farm ≡ run old.keeper.farm.farm done
  pub keeps : KeepsOwnFarm g old.keeper → KeepsOwnFarm g new.keeper

-- one after another they do these calls and leave it open
abbrev pub LeaveOpen : {S : Type 0} → Ghosts S → List Conversation → Desk S → Desk S → List Call
    → Type 0
LeaveOpen {S} g [] old new done = (new ≡ old) × (done ≡ [])
LeaveOpen {S} g (conversation ∷ conversations) old new done =
    (next : Desk S) × (first : List Call) × (others : List Call)
    × LeavesOpen g old next conversation first × LeaveOpen g conversations next new others
    × (done ≡ first ++ others)

-- a stop then leaves the farm before the call or, not after want of memory, the one after it
abbrev pub LeavesBy : {S : Type 0} → Ghosts S → KeeperState S → Result ℕ DeskFault → Farm → Farm
    → Type 0
LeavesBy {S} g k (Err (DeskFault.Keep fault)) F G = LeavesAfter g k fault F G
LeavesBy {S} g k (Err DeskFault.Write) F G = KeepsEither g k F G
LeavesBy {S} g k end F G = ⊥

-- how a conversation ends that closes the keeper
abbrev pub IsClosing : Result ℕ DeskFault → Type 0
IsClosing (Err (DeskFault.Keep KeepFault.NoMemory)) = Unit {0}
IsClosing (Err (DeskFault.Keep KeepFault.Store)) = Unit {0}
IsClosing (Err DeskFault.Write) = Unit {0}
IsClosing end = ⊥

-- after these calls were done, a conversation closes the keeper over one call more, a change
pub record ClosesAfter {S : Type 0} (g : Ghosts S) (start : KeeperState S) (old new : Desk S)
    (conversation : Conversation) (done : List Call) : Type 0 where
  pub call : Call
  pub asks : AsksCalls old.input new.input conversation.now (call ∷ [])
  pub change : IsChange (answer (run start.farm.farm done) call)
  pub closing : IsClosing conversation.end
  pub leaves : KeepsOwnFarm g start → LeavesBy g new.keeper conversation.end
      (run start.farm.farm done) (run start.farm.farm (done ++ call ∷ []))

-- while the keeper stays open, it has the farm after the calls that were done, and its store keeps
-- that farm
abbrev pub OpenKeepsDone : {S : Type 0} → Ghosts S → Type 0
OpenKeepsDone {S} g = (conversations : List Conversation) (old new : Desk S)
    → old.keeper.is_open ≡ true → new.keeper.is_open ≡ true → ConverseInTurn g conversations old new
    → (done : List Call) × LeaveOpen g conversations old new done
    × Reaches g old.keeper new.keeper done

-- where one more conversation closes it, a stop leaves the farm after the calls that were done, or
-- after one call more
abbrev pub ClosedKeepsPrefix : {S : Type 0} → Ghosts S → Type 0
ClosedKeepsPrefix {S} g =
    (conversations : List Conversation) (last : Conversation) (old between new : Desk S)
    → old.keeper.is_open ≡ true → between.keeper.is_open ≡ true → new.keeper.is_open ≡ false
    → ConverseInTurn g conversations old between → Converses g between new last.now last.end
    → (done : List Call) × LeaveOpen g conversations old between done
    × ClosesAfter g old.keeper between new last done
