-- An answer that was written, or lost.
use Rattle.std.proofs.Common.{◌≡◌, ◌≢◌, ℕ, List, Bool, true, false, length, subst, Err}
use Rattle.std.specs.Prelude.{Option, Result}
use Rattle.farm_serve.specs.Names.{EndsWritten, HasNoRoom, IsAnswered, IsUnwritten, Writes, WritesAnswer}
use Rattle.farm_serve.proofs.Names.{DeskFault}

not_read : (end : Result ℕ DeskFault) → EndsWritten end → end ≢ Err DeskFault.Read
not_read (Err DeskFault.Read) written_end e = absurd written_end
not_read end written_end e = absurd (cc)

-- the writer didn't fail: the whole answer was written
pub written_whole : (Response : List ℕ → Result ℕ DeskFault → Type 0) (Room : ℕ → Type 0) (failed : Bool) (held holds : Option (List ℕ)) (end : Result ℕ DeskFault)
    → (end ≢ Err DeskFault.Read → WritesAnswer Response Room failed held holds end) → failed ≡ false → EndsWritten end → IsAnswered Response held holds end
written_whole Response Room failed held holds end writes alive written_end =
    let t = writes (not_read end written_end) in
    record { bytes = t.bytes; response = t.response; written = subst (λ f. Writes Room f held holds t.bytes) alive t.written }

-- it failed: a part of it was
pub written_in_part : (Response : List ℕ → Result ℕ DeskFault → Type 0) (Room : ℕ → Type 0) (failed : Bool) (held holds : Option (List ℕ)) (end : Result ℕ DeskFault)
    → (end ≢ Err DeskFault.Read → WritesAnswer Response Room failed held holds end) → (end ≡ Err DeskFault.Read → failed ≡ false) → failed ≡ true → IsUnwritten Response held holds
written_in_part Response Room failed held holds end writes unread fails =
    let t = writes (λ e. let alive = unread e in cc) in
    record { bytes = t.bytes; end = end; response = t.response; part = (subst (λ f. Writes Room f held holds t.bytes) fails t.written).0 }

-- and there was no room for it
pub written_too_long : (Response : List ℕ → Result ℕ DeskFault → Type 0) (Room : ℕ → Type 0) (failed : Bool) (held holds : Option (List ℕ)) (end : Result ℕ DeskFault)
    → (end ≢ Err DeskFault.Read → WritesAnswer Response Room failed held holds end) → (end ≡ Err DeskFault.Read → failed ≡ false) → failed ≡ true → HasNoRoom Response Room
written_too_long Response Room failed held holds end writes unread fails =
    let t = writes (λ e. let alive = unread e in cc) in
    record { bytes = t.bytes; end = end; response = t.response; no_room = (subst (λ f. Writes Room f held holds t.bytes) fails t.written).1 }

-- nor is there in less room
pub no_room_within : (Response : List ℕ → Result ℕ DeskFault → Type 0) (Less Room : ℕ → Type 0) → ((n : ℕ) → Less n → Room n) → HasNoRoom Response Room → HasNoRoom Response Less
no_room_within Response Less Room within due =
    record { bytes = due.bytes; end = due.end; response = due.response; no_room = λ fits. due.no_room (within (length due.bytes) fits) }
