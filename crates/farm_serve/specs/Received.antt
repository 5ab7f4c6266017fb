-- What a conversation receives: the bytes that leave the reader, and what they ask.
use Rattle.std.specs.Prelude.{◌≡◌, ℕ, ◌⊎◌, List, [], Option, Some, None, Result, Ok, Err, ⊤}
use Rattle.std.specs.Io.KnownBytes.{Consumes}
use Rattle.farm_http.specs.Request.{Request}
use Rattle.farm_http.specs.Requests.{IsRefused, IsRequest, ParsesTo}
use Rattle.farm_wire.specs.Asked.{Asked, ask, shown_ask}
use Rattle.farm_wire.specs.Reading.{Denial, refused, other_methods}
use Rattle.farm_wire.specs.declared.ask.Ask.{Ask}
use Rattle.farm_wire.specs.declared.fault.AskFault.{AskFault}

-- what is asked, or why nothing is, in the words of the definitions
abbrev pub plain_ask : Result Ask Denial → Result Asked Denial
plain_ask (Ok what) = Ok (shown_ask what)
plain_ask (Err denial) = Err denial

-- the bytes are a request, and this is its meaning at that moment
pub record IsMeant (used : List ℕ) (now : ℕ) (what : Result Ask Denial) : Type 0 where
  pub head : ℕ
  pub request : Request
  pub parsed : ParsesTo used head request
  pub means : ask request now ≡ plain_ask what

-- the bytes ask this at that moment: they are refused as no request, or they are a request that
-- means it
abbrev pub Asks : List ℕ → Type 0 → ℕ → Result Ask Denial → Type 0
Asks used AtEnd now (Ok what) = IsMeant used now (Ok what)
Asks used AtEnd now (Err (refused code)) = IsRefused used AtEnd code
    ⊎ IsMeant used now (Err (refused code))
Asks used AtEnd now (Err (other_methods allowed)) = IsMeant used now (Err (other_methods allowed))

-- of this input the bytes that ask this are taken, and no others
pub record IsTakenFor (input : List ℕ) (rest : Option (List ℕ)) (now : ℕ) (what : Result Ask Denial)
    : Type 0 where
  pub used : List ℕ
  pub taken : Consumes (Some input) rest used
  pub asks : Asks used (used ≡ input) now what

-- of this input a whole request is taken, or nothing
pub record IsTakenWhole (input : List ℕ) (rest : Option (List ℕ)) : Type 0 where
  pub used : List ℕ
  pub taken : Consumes (Some input) rest used
  pub whole : (used ≡ []) ⊎ ((head : ℕ) × IsRequest used head)

-- of a reader whose bytes are known those were read that ask this
abbrev pub Receives : Option (List ℕ) → Option (List ℕ) → ℕ → Result Ask Denial → Type 0
Receives None rest now what = ⊤
Receives (Some input) rest now what = IsTakenFor input rest now what

-- of a reader whose bytes are known a whole request was read, or nothing
abbrev pub ReceivesWhole : Option (List ℕ) → Option (List ℕ) → Type 0
ReceivesWhole None rest = ⊤
ReceivesWhole (Some input) rest = IsTakenWhole input rest

-- of a reader whose bytes are known those were read that ask nothing for that reason
abbrev pub ReceivesBadRequest : Option (List ℕ) → Option (List ℕ) → ℕ → AskFault → Type 0
ReceivesBadRequest input rest now AskFault.NoMemory = ReceivesWhole input rest
ReceivesBadRequest input rest now (AskFault.Refused refusal) =
    Receives input rest now (Err (refused refusal.code))
ReceivesBadRequest input rest now (AskFault.Method allowed) =
    Receives input rest now (Err (other_methods allowed))
