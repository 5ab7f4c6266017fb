-- The answers that are due: to a view, to what is denied, to a call.
use Rattle.std.proofs.Common.{◌≡◌, ◌↔◌, ℕ, List, Bool, true, false, refl, sym, ap, ◌∙◌, subst, Ok, Err, inl, inr}
use Rattle.std.specs.Prelude.{Option, Result}
use Rattle.farm_serve.proofs.Names.{Ask, AskFault, Call, Denial, DeskFault, Ghosts, IsChange, KeeperState, KeepFault, KeepsEither, KeepsOwnFarm, Out}
use Rattle.farm_types.specs.Names.{answer, Answered, kind_of, no_memory, step}
use Rattle.farm_types.specs.declared.calls.Answer.{Answer}
use Rattle.farm_keep.specs.Faults.{IsActFault, keep_fault_code}
use Rattle.farm_wire.specs.Reading.{refused, other_methods}
use Rattle.farm_wire.specs.Replies.{reply_bytes}
use Rattle.farm_serve.specs.Names.{Encodes, IsDenialEncoded, IsEncoded, IsEncodedOne, IsResponse, IsResponseTo, out_of_answer, out_of_denial, out_of_refusal}
use Rattle.farm_serve.specs.Names.{ReceivesBadRequest, RunsOutOfMemory}

response_without_memory : {S : Type 0} (g : Ghosts S) (old new : KeeperState S) (what : Result Ask Denial) (bytes : List ℕ) (end : DeskFault)
    → end ≡ DeskFault.NoMemory → RunsOutOfMemory g old new what bytes → IsResponseTo g old new what bytes (Err end)
response_without_memory g old new what bytes DeskFault.NoMemory e out = out
response_without_memory g old new what bytes other e out = absurd (cc)

-- an answer that is one of some
pub encoded_one : (P : Out → Type 0) (out : Out) (bytes : List ℕ) (end : Result ℕ DeskFault) → P out → IsEncoded out bytes end → IsEncodedOne P bytes end
encoded_one P out bytes (Ok status) is made = (out, is, made)
encoded_one P out bytes (Err fault) is made = made

-- there was no memory for any of them
pub encoded_no_memory : (P : Out → Type 0) (bytes : List ℕ) (end : Result ℕ DeskFault) → bytes ≡ reply_bytes (out_of_refusal no_memory) → end ≡ Err DeskFault.NoMemory → IsEncodedOne P bytes end
encoded_no_memory P bytes end encodes ends = subst (IsEncodedOne P bytes) (sym ends) (record { fault_is = refl; bytes_are = encodes })

-- a denial that was made, or for which there was no memory
pub denial_is_response : {S : Type 0} (g : Ghosts S) (k : KeeperState S) (why : Denial) (bytes : List ℕ) (end : Result ℕ DeskFault)
    → IsEncoded (out_of_denial why) bytes end → IsResponseTo g k k (Err why) bytes end
denial_is_response g k why bytes (Ok status) made = record { encodes = made; unchanged = refl }
denial_is_response g k why bytes (Err fault) made =
    response_without_memory g k k (Err why) bytes fault made.fault_is (record { encodes = made.bytes_are; was_open = tt; stays_open = refl; farm = refl })

-- nothing was asked, and the answer shows why
pub bad_request_is_response : {S : Type 0} (g : Ghosts S) (k : KeeperState S) (input rest : Option (List ℕ)) (now : ℕ) (fault : AskFault) (bytes : List ℕ) (end : Result ℕ DeskFault)
    → ReceivesBadRequest input rest now fault → IsDenialEncoded fault bytes end → IsResponse g k k input rest now bytes end
bad_request_is_response g k input rest now AskFault.NoMemory bytes end receives made =
    inr (record { fault = made.0; receives = receives; encodes = made.1; unchanged = refl })
bad_request_is_response g k input rest now (AskFault.Refused refusal) bytes end receives made =
    inl (record { what = Err (refused refusal.code); receives = receives; response = denial_is_response g k (refused refusal.code) bytes end made })
bad_request_is_response g k input rest now (AskFault.Method allowed) bytes end receives made =
    inl (record { what = Err (other_methods allowed); receives = receives; response = denial_is_response g k (other_methods allowed) bytes end made })

-- ---- calls

-- a call that the machine answered, or for whose answer there was no memory
pub call_is_response : {S : Type 0} (g : Ghosts S) (old new : KeeperState S) (call : Call) (answered : Answered) (bytes : List ℕ) (end : Result ℕ DeskFault)
    → answered ≡ answer old.farm.farm call → new.farm.farm ≡ step old.farm.farm call
    → (old.is_open ≡ true) × (new.is_open ≡ true) → (KeepsOwnFarm g old → KeepsOwnFarm g new)
    → IsEncoded (out_of_answer (kind_of call.cmd) answered) bytes end
    → IsResponseTo g old new (Ok (Ask.Call call)) bytes end
call_is_response g old new call answered bytes (Ok status) same farm opened keeps made =
    record {
      was_open = opened.0;
      stays_open = opened.1;
      encodes = subst (λ a. Encodes (out_of_answer (kind_of call.cmd) a) bytes status) same made;
      farm = farm;
      keeps = keeps;
    }
call_is_response g old new call answered bytes (Err fault) same farm opened keeps made =
    response_without_memory g old new (Ok (Ask.Call call)) bytes fault made.fault_is
    (record { encodes = made.bytes_are; was_open = opened.0; stays_open = opened.1 ∙ sym opened.0; farm = inr (record { was_open = opened.0; farm = farm; keeps = keeps }) })

open_unless : (b : Bool) → (b ≡ false → ⊥) → b ≡ true
open_unless true h = refl
open_unless false h = absurd (h refl)

-- what the keeper returned then
abbrev pub acted : KeepFault → Result Answer KeepFault
acted fault = Err fault

-- a call at which the keeper returned a fault
pub fault_is_response : {S : Type 0} (g : Ghosts S) (old new : KeeperState S) (call : Call) (fault : KeepFault) (bytes : List ℕ)
    → (acted fault ≡ Err KeepFault.NoMemory → (new.is_open ≡ false) × (new.conn ≡ old.conn) × IsChange (answer old.farm.farm call))
    → (acted fault ≡ Err KeepFault.Store → (new.is_open ≡ false) × IsChange (answer old.farm.farm call)
    × (KeepsOwnFarm g old → KeepsEither g new old.farm.farm (step old.farm.farm call)))
    → (acted fault ≡ Err KeepFault.Closed ↔ old.is_open ≡ false)
    → (acted fault ≡ Err KeepFault.Closed → new ≡ old)
    → IsActFault fault
    → bytes ≡ reply_bytes (out_of_refusal (keep_fault_code fault))
    → IsResponseTo g old new (Ok (Ask.Call call)) bytes (Err (DeskFault.Keep fault))
fault_is_response g old new call KeepFault.NoMemory bytes memory store closed still other encodes =
    let lacks = memory refl in
    record {
      encodes = encodes;
      is_closed = lacks.0;
      cause = record { was_open = open_unless old.is_open (λ shut. let e = closed.1 shut in absurd (cc)); change = lacks.2; store = lacks.1 };
    }
fault_is_response g old new call KeepFault.Store bytes memory store closed still other encodes =
    let loses = store refl in
    record {
      encodes = encodes;
      is_closed = loses.0;
      cause = record { was_open = open_unless old.is_open (λ shut. let e = closed.1 shut in absurd (cc)); change = loses.1; leaves = loses.2 };
    }
fault_is_response g old new call KeepFault.Closed bytes memory store closed still other encodes =
    let same = still refl in
    let shut = closed.0 refl in
    record {
      encodes = encodes;
      is_closed = ap (λ (k : KeeperState _). k.is_open) same ∙ shut;
      cause = record { was_closed = shut; unchanged = same };
    }
fault_is_response g old new call fault bytes memory store closed still other encodes = absurd other
