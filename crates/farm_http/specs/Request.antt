-- One request by its parts.
use Rattle.std.specs.Prelude.{ℕ, List}
use Rattle.httparse.specs.Grammar.{RequestHead}
use Rattle.farm_http.specs.Fields.{fields_of}

-- what a request says: its method and target, each field's name and value, and its body
pub record Request : Type 0 where
  pub method : List ℕ
  pub target : List ℕ
  pub fields : List (List ℕ × List ℕ)
  pub body : List ℕ

-- what a head and a body say
abbrev pub request_of : RequestHead → List ℕ → Request
request_of h body = record {
  method = h.method;
  target = h.target;
  fields = fields_of h;
  body = body;
}
