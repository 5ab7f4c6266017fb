-- A body that is read, and one that is not.
use Rattle.std.proofs.Common.{◌≡◌, ℕ, List, Bool, true, false, refl, Ok, Err}
use Rattle.std.specs.Prelude.{Some, None, is_some, IsUtf8}
use Rattle.std.specs.Str.{is_utf8}
use Rattle.std.proofs.lemmas.Str.{IsUtf8-from_is_utf8, is_utf8-from_IsUtf8}
use Rattle.serde_json.specs.Data.{Data}
use Rattle.serde_json.specs.Read.{read}
use Rattle.serde_json.specs.Find.{as_object}
use Rattle.farm_types.specs.Names.{bad_request}
use Rattle.farm_wire.specs.Fields.{object_in}

pub body_ok : (body : List ℕ) (d : Data) → IsUtf8 body → read body ≡ Some d → is_some (as_object d) ≡ true → object_in body ≡ Ok d
unfolding object_in
body_ok body d u r o = rw (is_utf8-from_IsUtf8 body u, r, o) refl

refused : (body : List ℕ) (b : Bool) → is_utf8 body ≡ b → (IsUtf8 body → read body ≡ None) → object_in body ≡ Err bad_request
unfolding object_in
refused body true e n = rw (e, n (IsUtf8-from_is_utf8 body e)) refl
refused body false e n = rw e refl

pub body_err : (body : List ℕ) → (IsUtf8 body → read body ≡ None) → object_in body ≡ Err bad_request
body_err body n = refused body (is_utf8 body) refl n
