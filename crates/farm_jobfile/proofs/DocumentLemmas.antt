-- The text of a file that is UTF-8, and of one that is not.
use Rattle.std.proofs.Common.{◌≡◌, ℕ, ◌≤◌, List, Bool, true, false, length, refl, arith, Ok, Err}
use Rattle.std.specs.Prelude.{IsUtf8, nat_lt}
use Rattle.std.specs.Str.{is_utf8}
use Rattle.std.proofs.lemmas.Bool.Decides.{nat_tests}
use Rattle.std.proofs.lemmas.Str.{IsUtf8-from_is_utf8, is_utf8-from_IsUtf8}
use Rattle.farm_jobfile.specs.Reading.{bad}
use Rattle.farm_jobfile.specs.Document.{text_in}
use Rattle.farm_jobfile.specs.declared.fault.FileKind.{FileKind}
use Rattle.farm_jobfile.specs.declared.fault.Reason.{Reason}

not_long : (most n : ℕ) → n ≤ most → nat_lt most n ≡ false
not_long most n short = grind (arith, nat_tests)

pub text_read : (file : FileKind) (most : ℕ) (bytes : List ℕ) → length bytes ≤ most → IsUtf8 bytes → text_in file most bytes ≡ Ok bytes
unfolding text_in
text_read file most bytes short u = rw (not_long most (length bytes) short, is_utf8-from_IsUtf8 bytes u) refl

no_utf8 : (bytes : List ℕ) (b : Bool) → is_utf8 bytes ≡ b → (IsUtf8 bytes → ⊥) → b ≡ false
no_utf8 bytes true e not_so = absurd (not_so (IsUtf8-from_is_utf8 bytes e))
no_utf8 bytes false e not_so = refl

pub text_unread : (file : FileKind) (most : ℕ) (bytes : List ℕ) → length bytes ≤ most → (IsUtf8 bytes → ⊥) → text_in file most bytes ≡ Err (bad file Reason.NotToml)
unfolding text_in
text_unread file most bytes short not_so = rw (not_long most (length bytes) short, no_utf8 bytes (is_utf8 bytes) refl not_so) refl
