-- What was read and what it means, joined.
use Rattle.std.proofs.Common.{◌≡◌, ℕ, List, drop, refl, Ok, Err, inl, inr, subst}
use Rattle.std.specs.Prelude.{Option, Some, None, Result, IfSome}
use Rattle.farm_types.specs.Names.{FaultOrNoMemory}
use Rattle.farm_types.specs.declared.refusal.Refusal.{Refusal}
use Rattle.farm_http.specs.Request.{Request, request_of}
use Rattle.farm_http.specs.Requests.{IsRequest, ParsesTo}
use Rattle.farm_http.specs.Faults.{TakesFrom}
use Rattle.farm_http.specs.declared.taken.Taken.{Taken}
use Rattle.farm_http.specs.declared.fault.WireFault.{WireFault}
use Rattle.farm_http.specs.declared.fault.WireFault.TheVariants.{NoMemory, Refused}
use Rattle.farm_wire.specs.Asked.{ask}
use Rattle.farm_serve.proofs.Names.{Ask, AskFault, Denial}
use Rattle.farm_wire.specs.Reading.{denial_of, refused, other_methods}
use Rattle.farm_serve.specs.Names.{Asks, IsMeant, plain_ask, Receives, ReceivesBadRequest, ReceivesWhole}

-- what was taken of a reader whose bytes are known
abbrev pub Known : Option (List ℕ) → Option (List ℕ) → Result Taken WireFault → Type 0
Known input rest taken = IfSome input (λ bytes. TakesFrom bytes rest taken)

-- what a request means is asked by its bytes
pub asks_meant : (used : List ℕ) (AtEnd : Type 0) (now : ℕ) (what : Result Ask Denial) → IsMeant used now what → Asks used AtEnd now what
asks_meant used AtEnd now (Ok what) meant = meant
asks_meant used AtEnd now (Err (refused code)) meant = inr meant
asks_meant used AtEnd now (Err (other_methods allowed)) meant = meant

-- the bytes of a request mean what it means
pub meant_of : (used : List ℕ) (taken : Taken) (now : ℕ) (what : Result Ask Denial)
    → used ≡ taken.bytes.items → IsRequest used taken.head
    → ((request : Request) → ParsesTo taken.bytes.items taken.head request → ask request now ≡ plain_ask what)
    → IsMeant used now what
meant_of used taken now what same whole means =
    let request : Request = request_of whole.0 (drop taken.head used) in
    let parsed : ParsesTo used taken.head request = (whole.0, whole.1, refl) in
    record {
      head = taken.head;
      request = request;
      parsed = parsed;
      means = means request (subst (λ bytes. ParsesTo bytes taken.head request) same parsed);
    }

pub receives_meant : (input rest : Option (List ℕ)) (now : ℕ) (taken : Taken) (what : Result Ask Denial)
    → Known input rest (Ok taken)
    → ((request : Request) → ParsesTo taken.bytes.items taken.head request → ask request now ≡ plain_ask what)
    → Receives input rest now what
receives_meant None rest now taken what known means = tt
receives_meant (Some bytes) rest now taken what known means =
    record {
      used = known.0;
      taken = known.1;
      asks = asks_meant known.0 (known.0 ≡ bytes) now what (meant_of known.0 taken now what known.2.0 known.2.1 means);
    }

pub receives_refused : (input rest : Option (List ℕ)) (now : ℕ) (refusal : Refusal)
    → Known input rest (Err (Refused refusal)) → Receives input rest now (Err (refused refusal.code))
receives_refused None rest now refusal known = tt
receives_refused (Some bytes) rest now refusal known = record { used = known.0; taken = known.1; asks = inl known.2 }

pub receives_whole : (input rest : Option (List ℕ)) (taken : Taken)
    → Known input rest (Ok taken) → ReceivesWhole input rest
receives_whole None rest taken known = tt
receives_whole (Some bytes) rest taken known =
    record { used = known.0; taken = known.1; whole = inr (taken.head, known.2.1) }

pub receives_nothing : (input rest : Option (List ℕ))
    → Known input rest (Err NoMemory) → ReceivesWhole input rest
receives_nothing None rest known = tt
receives_nothing (Some bytes) rest known = record { used = known.0; taken = known.1; whole = inl known.2 }

-- one was read, and it asks nothing
pub receives_bad_request : (input rest : Option (List ℕ)) (now : ℕ) (taken : Taken) (fault : AskFault)
    → Known input rest (Ok taken)
    → ((request : Request) → ParsesTo taken.bytes.items taken.head request → FaultOrNoMemory (denial_of fault) (ask request now))
    → ReceivesBadRequest input rest now fault
receives_bad_request input rest now taken AskFault.NoMemory known means = receives_whole input rest taken known
receives_bad_request input rest now taken (AskFault.Refused refusal) known means =
    receives_meant input rest now taken (Err (refused refusal.code)) known means
receives_bad_request input rest now taken (AskFault.Method allowed) known means =
    receives_meant input rest now taken (Err (other_methods allowed)) known means
