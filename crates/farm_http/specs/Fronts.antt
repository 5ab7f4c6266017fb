-- What the first bytes of a request say of it.
use Rattle.std.specs.Prelude.{◌≡◌, ℕ, ◌+◌, ◌≤◌, List, ◌++◌, length, take, Ok}
use Rattle.httparse.specs.Grammar.{RequestHead}
use Rattle.farm_http.specs.declared.front.Front.{Front}
use Rattle.farm_http.specs.Fields.{body_length}
use Rattle.farm_http.specs.Heads.{IsHead, IsOpenBelow}
use Rattle.farm_http.specs.Requests.{IsRefused}

-- they begin with a head, whose request has so many bytes
pub record BeginsRequest (bytes : List ℕ) (len : ℕ) : Type 0 where
  pub head : RequestHead
  pub size : ℕ
  pub body : ℕ
  pub within : size ≤ length bytes
  pub reads : IsHead (take size bytes) head
  pub declared : body_length head ≡ Ok body
  pub whole : len ≡ size + body

-- some of them are refused, whatever follows
pub record AreRefused (bytes : List ℕ) : Type 0 where
  pub used : List ℕ
  pub more : List ℕ
  pub code : ℕ
  pub parts : bytes ≡ used ++ more
  pub refused : IsRefused used ⊥ code

-- what they say: none of their lines ends a head, and each leaves it open; or how long the request
-- is; or that there is none
abbrev pub IsFront : List ℕ → Front → Type 0
IsFront bytes Front.Open = IsOpenBelow (length bytes) bytes
IsFront bytes (Front.Whole len) = BeginsRequest bytes len
IsFront bytes Front.Refused = AreRefused bytes
