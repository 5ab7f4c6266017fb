-- Conversations in a row, one after another.
use Rattle.std.proofs.Common.{◌≡◌, ◌⊎◌, ℕ, suc, ◌+◌, ◌<◌, true, false, List, [], ◌∷◌, ◌++◌, length, get_or, take, drop, map, refl, sym, ap, ◌∙◌, subst, inl}
use Rattle.std.proofs.Common.{inr}
use Rattle.std.specs.Prelude.{Option, Some, None, Result, Ok, Err, IsOk}
use Rattle.std.specs.List.{AllByRecursion, flat_map}
use Rattle.std.specs.Io.KnownBytes.{Appends, Consumes}
use Rattle.std.proofs.KnownBytes.{Appends-trans}
use Rattle.std.proofs.Math.Seq.{drop-cons}
use Rattle.farm_serve.proofs.Names.{append_assoc, Ask, Call, Denial, DeskFault, fold-append, Ghosts, KeeperState, KeepsOwnFarm, Out}
use Rattle.std.proofs.lemmas.List.{append-nil, map-append, take_more, take-append-drop}
use Rattle.std.proofs.lemmas.List.Concat.{flat_map-append}
use Rattle.farm_types.specs.Names.{answer, Farm, kind_of, run, step}
use Rattle.farm_types.specs.declared.rows.Reply.{Reply}
use Rattle.farm_keep.specs.Restarts.{answer_again}
use Rattle.farm_keep.proofs.KeptLemmas.{again_kept}
use Rattle.farm_http.specs.Room.{KeepsRoom, RoomLeft}
use Rattle.farm_http.proofs.Room.{room_left}
use Rattle.farm_serve.specs.Names.{ActAsRun, AnsweredActAsRun, Answers, AnswersAll, AreAnswered, Asks, call_asked, calls_of, Conversation, conversation_of}
use Rattle.farm_serve.specs.Names.{ConverseApart, ConverseInTurn, Converses, Desk, Encodes, Exchange, IsAnswered, IsComplete, IsMachineAnswer, IsResponse}
use Rattle.farm_serve.specs.Names.{IsSentAgain, out_of_answer, out_of_denial, Reaches, Receives, StopsAt}

-- ---- two lists

pub apart : {S : Type 0} (g : Ghosts S) (first second : List Conversation) (old new : Desk S) → ConverseInTurn g (first ++ second) old new → ConverseApart g first second old new
apart g [] second old new h = (old, refl, h)
apart g (conversation ∷ first) second old new h =
    let others = apart g first second h.0 new h.2 in
    (others.0, (h.0, h.1, others.1), others.2)

pub together : {S : Type 0} (g : Ghosts S) (first second : List Conversation) (old between new : Desk S) → ConverseInTurn g first old between → ConverseInTurn g second between new → ConverseInTurn g (first ++ second) old new
together g [] second old between new a b = subst (λ desk. ConverseInTurn g second desk new) a b
together g (conversation ∷ first) second old between new a b = (a.0, a.1, together g first second a.0 between new a.2 b)

-- ---- at moments

all_answered : (conversations : List Conversation) (last : Conversation) → AllByRecursion (λ conversation. IsOk conversation.end) conversations → IsOk last.end → AllByRecursion (λ conversation. IsOk conversation.end) (conversations ++ last ∷ [])
all_answered [] last all ok = (ok, tt)
all_answered (conversation ∷ conversations) last all ok = (all.0, all_answered conversations last all.1 ok)

pub one_more : {S : Type 0} (g : Ghosts S) (old between new : Desk S) (moments : List ℕ) (i now status : ℕ) → i < length moments → now ≡ get_or moments i 0
    → AnswersAll g old between (take i moments) → Converses g between new now (Ok status) → AnswersAll g old new (take (i + 1) moments)
one_more g old between new moments i now status low here all h =
    let last : Conversation = record { now = now; end = Ok status } in
    record {
      conversations = all.conversations ++ last ∷ [];
      at_moments = map-append (λ conversation. conversation.now) all.conversations (last ∷ [])
          ∙ ap (λ ms. ms ++ now ∷ []) all.at_moments
          ∙ ap (λ m. take i moments ++ m ∷ []) here
          ∙ sym (take_more moments i 0 low);
      answered = all_answered all.conversations last all.answered refl;
      in_turn = together g all.conversations (last ∷ []) old between new all.in_turn (new, h, refl);
    }

-- the fault that ended it, if one did
abbrev pub fault_in : {A : Type 0} → Result A DeskFault → DeskFault
fault_in (Ok done) = DeskFault.NoMemory
fault_in (Err fault) = fault

pub stops_at : {S : Type 0} (g : Ghosts S) (old between new : Desk S) (moments : List ℕ) (i now : ℕ) (Sure : Type 0) (Room : ℕ → Type 0) (fault : DeskFault) → i < length moments → now ≡ get_or moments i 0
    → AnswersAll g old between (take i moments) → Converses g between new now (Err fault) → IsComplete g between new now Sure (RoomLeft Room old.output between.output) (Err fault)
    → StopsAt g old new moments Sure Room fault
stops_at g old between new moments i now Sure Room fault low here all h complete =
    record {
      done = take i moments;
      last = now;
      left = drop (suc i) moments;
      moments_are = sym (take-append-drop i moments)
          ∙ ap (λ l. take i moments ++ l) (drop-cons moments i 0 low ∙ ap (λ m. m ∷ drop (suc i) moments) (sym here));
      between = between;
      answers = all;
      stops = h;
      complete = complete;
    }

-- ---- the room that the answers leave

-- a writer gained some bytes, and has the room that they left
pub record GainsWithin (First Next : ℕ → Type 0) (held holds : Option (List ℕ)) : Type 0 where
  pub bytes : List ℕ
  pub gained : Appends held holds bytes
  pub room : KeepsRoom First Next held holds

pub gains_more : (First Next Last : ℕ → Type 0) (a b c : Option (List ℕ)) (bytes : List ℕ) → GainsWithin First Next a b → Appends b c bytes → KeepsRoom Next Last b c → GainsWithin First Last a c
gains_more First Next Last a b c bytes all more room = record {
  bytes = all.bytes ++ bytes;
  gained = Appends-trans a b c all.bytes bytes all.gained more;
  room = room_left First Next Last a b c all.bytes bytes all.gained all.room more room;
}

-- ---- what is due

-- before an answer was written: nothing was read, or an answer was due, which ends the conversation unless the writer failed
pub record HasResponse {S : Type 0} (g : Ghosts S) (old new : Desk S) (now : ℕ) (end : Result ℕ DeskFault) : Type 0 where
  pub bytes : List ℕ
  pub response_end : Result ℕ DeskFault
  pub response : IsResponse g old.keeper new.keeper old.input new.input now bytes response_end
  pub same : (end ≡ response_end) ⊎ (end ≡ Err DeskFault.Write)

written_response : {S : Type 0} (g : Ghosts S) (old new : Desk S) (now : ℕ) (end : Result ℕ DeskFault)
    → IsAnswered (IsResponse g old.keeper new.keeper old.input new.input now) old.output new.output end → HasResponse g old new now end
written_response g old new now end a = record { bytes = a.bytes; response_end = end; response = a.response; same = inl refl }

pub has_response : {S : Type 0} (g : Ghosts S) (old new : Desk S) (now : ℕ) (end : Result ℕ DeskFault)
    → Converses g old new now end → (new.keeper ≡ old.keeper) ⊎ HasResponse g old new now end
has_response g old new now (Err DeskFault.Read) h = inl (h.unread refl).unchanged
has_response g old new now (Err DeskFault.Write) h =
    let u = h.unwritten refl in
    inr (record { bytes = u.bytes; response_end = u.end; response = u.response; same = inr refl })
has_response g old new now end h = inr (written_response g old new now end (h.answered tt))

-- ---- one answer

-- what an answer shows of the keeper
pub record IsReached {S : Type 0} (g : Ghosts S) (old new : KeeperState S) (asked : Result Ask Denial) (bytes : List ℕ) (status : ℕ) : Type 0 where
  pub out : Out
  pub machine : IsMachineAnswer old.farm.farm asked out
  pub encodes : Encodes out bytes status
  pub reaches : Reaches g old new (call_asked asked)

-- an unchanged keeper has the farm after no calls
pub reaches_nothing : {S : Type 0} (g : Ghosts S) (old new : KeeperState S) → new ≡ old → Reaches g old new []
reaches_nothing g old new unchanged =
    record {
      opened = ap (λ k. k.is_open) unchanged;
      farm = ap (λ k. k.farm.farm) unchanged;
      keeps = λ keeps. subst (λ k. KeepsOwnFarm g k) (sym unchanged) keeps;
    }

pub reached : {S : Type 0} (g : Ghosts S) (old new : KeeperState S) (asked : Result Ask Denial) (bytes : List ℕ) (status : ℕ)
    → Answers g old new asked bytes status → IsReached g old new asked bytes status
reached g old new (Err why) bytes status a =
    record { out = out_of_denial why; machine = refl; encodes = a.encodes; reaches = reaches_nothing g old new a.unchanged }
reached g old new (Ok (Ask.Call call)) bytes status a =
    record {
      out = out_of_answer (kind_of call.cmd) (answer old.farm.farm call);
      machine = refl;
      encodes = a.encodes;
      reaches = record { opened = a.stays_open ∙ sym a.was_open; farm = a.farm; keeps = a.keeps };
    }
reached g old new (Ok (Ask.View view)) bytes status a =
    record { out = a.out; machine = a.shows; encodes = a.encodes; reaches = reaches_nothing g old new a.unchanged }

-- ---- known bytes

known_rest : (input : List ℕ) (rest : Option (List ℕ)) (used : List ℕ) → Consumes (Some input) rest used → (left : List ℕ) × (rest ≡ Some left) × (input ≡ used ++ left)
known_rest input None used h = absurd h
known_rest input (Some left) used h = (left, refl, h)

known_written : (held : List ℕ) (holds : Option (List ℕ)) (bytes : List ℕ) → Appends (Some held) holds bytes → holds ≡ Some (held ++ bytes)
known_written held None bytes h = absurd h
known_written held (Some written) bytes h = ap (λ l. Some l) h

-- ---- answered conversations

-- one answered conversation over known bytes
pub record IsOne {S : Type 0} (g : Ghosts S) (old new : Desk S) (input held : List ℕ) (now : ℕ) (end : Result ℕ DeskFault) : Type 0 where
  pub exchange : Exchange
  pub rest : List ℕ
  pub when : exchange.now ≡ now
  pub status : Ok exchange.status ≡ end
  pub left : new.input ≡ Some rest
  pub taken : input ≡ exchange.request ++ rest
  pub asks : Asks exchange.request (exchange.request ≡ input) exchange.now exchange.asked
  pub machine : IsMachineAnswer old.keeper.farm.farm exchange.asked exchange.out
  pub encodes : Encodes exchange.out exchange.answer exchange.status
  pub written : new.output ≡ Some (held ++ exchange.answer)
  pub reaches : Reaches g old.keeper new.keeper (call_asked exchange.asked)

not_memory : (status : ℕ) → Ok status ≡ Err DeskFault.NoMemory → ⊥
not_memory status e = cc

one_of : {S : Type 0} (g : Ghosts S) (old new : Desk S) (input held bytes : List ℕ) (now status : ℕ) → old.input ≡ Some input → old.output ≡ Some held
    → IsResponse g old.keeper new.keeper old.input new.input now bytes (Ok status) → Appends old.output new.output bytes → IsOne g old new input held now (Ok status)
one_of g old new input held bytes now status i o (inl response) w =
    let receives : Receives (Some input) new.input now response.what = subst (λ x. Receives x new.input now response.what) i response.receives in
    let known = known_rest input new.input receives.used receives.taken in
    let all = reached g old.keeper new.keeper response.what bytes status response.response in
    record {
      exchange = record { now = now; request = receives.used; asked = response.what; out = all.out; answer = bytes; status = status };
      rest = known.0;
      when = refl;
      status = refl;
      left = known.1;
      taken = known.2;
      asks = receives.asks;
      machine = all.machine;
      encodes = all.encodes;
      written = known_written held new.output bytes (subst (λ x. Appends x new.output bytes) o w);
      reaches = all.reaches;
    }
one_of g old new input held bytes now status i o (inr short) w = absurd (not_memory status short.fault)

one : {S : Type 0} (g : Ghosts S) (old new : Desk S) (input held : List ℕ) (now : ℕ) (end : Result ℕ DeskFault) → old.input ≡ Some input → old.output ≡ Some held
    → IsOk end → Converses g old new now end → IsOne g old new input held now end
one g old new input held now (Ok status) i o ok h =
    let a = h.answered tt in
    one_of g old new input held a.bytes now status i o a.response a.written
one g old new input held now (Err fault) i o ok h = absurd (let no : false ≡ true = ok in cc)

-- one call list after another
pub reaches_on : {S : Type 0} (g : Ghosts S) (old next new : KeeperState S) (first others : List Call) → Reaches g old next first → Reaches g next new others → Reaches g old new (first ++ others)
reaches_on g old next new first others a b =
    record {
      opened = b.opened ∙ a.opened;
      farm = b.farm ∙ ap (λ F. run F others) a.farm ∙ sym (fold-append step old.farm.farm first others);
      keeps = λ keeps. b.keeps (a.keeps keeps);
    }

acts_on : {S : Type 0} (g : Ghosts S) (conversation : Conversation) (conversations : List Conversation) (old next new : Desk S) (input held : List ℕ)
    → (x : IsOne g old next input held conversation.now conversation.end) → (xs : List Exchange)
    → ActAsRun g conversations next new x.rest (held ++ x.exchange.answer) xs → ActAsRun g (conversation ∷ conversations) old new input held (x.exchange ∷ xs)
acts_on g conversation conversations old next new input held x xs all =
    let head : conversation_of x.exchange ≡ conversation = ap (λ t. record { now = t; end = Ok x.exchange.status }) x.when ∙ ap (λ e. record { now = conversation.now; end = e }) x.status in
    record {
      rest = all.rest;
      each = ap (λ t. t ∷ map conversation_of xs) head ∙ ap (λ ts. conversation ∷ ts) all.each;
      left = all.left;
      taken = x.taken ∙ ap (λ l. x.exchange.request ++ l) all.taken ∙ sym (append_assoc x.exchange.request (flat_map (λ y. y.request) xs) all.rest);
      received = (x.rest, x.taken, x.asks, all.received);
      answers = (x.machine, x.encodes, subst (λ F. AreAnswered F xs) x.reaches.farm all.answers);
      written = all.written ∙ ap (λ l. Some l) (append_assoc held x.exchange.answer (flat_map (λ y. y.answer) xs));
      reaches = reaches_on g old.keeper next.keeper new.keeper (call_asked x.exchange.asked) (calls_of xs) x.reaches all.reaches;
    }

pub acts_as_run : {S : Type 0} (g : Ghosts S) → AnsweredActAsRun g
acts_as_run g [] old new input held i o ok h = (
  [],
  record {
    rest = input;
    each = refl;
    left = ap (λ desk. desk.input) h ∙ i;
    taken = refl;
    received = tt;
    answers = tt;
    written = ap (λ desk. desk.output) h ∙ o ∙ ap (λ l. Some l) (sym (append-nil held));
    reaches = reaches_nothing g old.keeper new.keeper (ap (λ desk. desk.keeper) h);
  },
)
acts_as_run g (conversation ∷ conversations) old new input held i o ok h =
    let x = one g old h.0 input held conversation.now conversation.end i o ok.0 h.1 in
    let others = acts_as_run g conversations h.0 new x.rest (held ++ x.exchange.answer) x.left x.written ok.1 h.2 in
    (x.exchange ∷ others.0, acts_on g conversation conversations old h.0 new input held x others.0 others.1)

-- ---- sent again

-- each has its answer at its place
pub answered_at : (F : Farm) (before after : List Exchange) (x : Exchange) → AreAnswered F (before ++ x ∷ after) → IsMachineAnswer (run F (calls_of before)) x.asked x.out
answered_at F [] after x h = h.0
answered_at F (y ∷ before) after x h =
    subst (λ G. IsMachineAnswer G x.asked x.out) (sym (fold-append step F (call_asked y.asked) (calls_of before)))
    (answered_at (run F (call_asked y.asked)) before after x h.2)

calls_through : (before between : List Exchange) (first : Exchange) (call : Call) → first.asked ≡ Ok (Ask.Call call)
    → calls_of (before ++ first ∷ between) ≡ calls_of before ++ call ∷ calls_of between
calls_through before between first call asks =
    flat_map-append (λ x. call_asked x.asked) before (first ∷ between)
    ∙ ap (λ asked. calls_of before ++ (call_asked asked ++ calls_of between)) asks

pub answered_again : (F : Farm) (before between after : List Exchange) (first second : Exchange) (call repeated : Call) (key : List ℕ) (reply : Reply)
    → IsSentAgain F before between after first second call repeated key reply
    → second.out ≡ out_of_answer (kind_of repeated.cmd) (answer_again call reply repeated)
answered_again F before between after first second call repeated key reply is =
    let placed : AreAnswered F ((before ++ first ∷ between) ++ second ∷ after) =
    subst (λ l. AreAnswered F l) (sym (append_assoc before (first ∷ between) (second ∷ after))) is.answers in
    let encodes = answered_at F (before ++ first ∷ between) after second placed in
    let machine : second.out ≡ out_of_answer (kind_of repeated.cmd) (answer (run F (calls_of (before ++ first ∷ between))) repeated) =
    subst (λ asked. IsMachineAnswer (run F (calls_of (before ++ first ∷ between))) asked second.out) is.asks_again encodes in
    machine
    ∙ ap (λ calls. out_of_answer (kind_of repeated.cmd) (answer (run F calls) repeated)) (calls_through before between first call is.asks)
    ∙ ap (λ given. out_of_answer (kind_of repeated.cmd) given)
    (again_kept F (calls_of before) (calls_of between) call repeated key reply is.keyed is.same_key is.same_caller is.accepted)
