-- What is known of the bytes that came stays known once more came, and what a look finds by it.
use Rattle.std.proofs.Common.{◌≡◌, ℕ, ◌+◌, ◌<◌, ◌≤◌, List, [], ◌++◌, length, take, arith, sym, subst, ◌∙◌, length-append}
use Rattle.std.proofs.Common.{refl, Ok, Err, IfOk, IsErr, inl, inr, append-nil}
use Rattle.std.proofs.KnownBytes.{Consumes-kept, Consumes-nil}
use Rattle.std.proofs.Math.Logic.{∥∥₁_elim}
use Rattle.std.proofs.Props.{props}
use Rattle.std.proofs.lemmas.Grind.{merely}
use Rattle.std.proofs.lemmas.List.{take-append-le}
use Rattle.std.proofs.Math.ListN.{get_or-append}
use Rattle.std.specs.Io.{ReadsAtMost}
use Rattle.std.specs.Io.KnownBytes.{Consumes, ReadConsumes}
use Rattle.std.specs.Prelude.{Bool, true, false, if◌then◌else◌, Option, Some, None, Result}
use Rattle.farm_http.specs.declared.front.Front.{Front}
use Rattle.farm_http.specs.Fronts.{AreRefused, BeginsRequest, IsFront}
use Rattle.farm_http.specs.Heads.{IsHead, IsOpen, IsOpenBelow}
use Rattle.farm_room.specs.Came.{IsAwaited, IsKnown}

pub open_of_more : (bytes more : List ℕ) (n : ℕ) → n ≤ length bytes → IsOpenBelow n bytes → IsOpenBelow n (bytes ++ more)
open_of_more bytes more n few o i below at =
    let within : i < length bytes = omega (arith, few, below) in
    subst IsOpen (sym (take-append-le (i + 1) bytes more (omega (arith, within)))) (o i below (sym (get_or-append bytes more 0 i within) ∙ at))

pub begins_of_more : (bytes more : List ℕ) (whole : ℕ) → BeginsRequest bytes whole → BeginsRequest (bytes ++ more) whole
begins_of_more bytes more whole it = record {
  head = it.head;
  size = it.size;
  body = it.body;
  within = omega (arith, it.within, length-append bytes more);
  reads = subst (λ l. IsHead l it.head) (sym (take-append-le it.size bytes more it.within)) it.reads;
  declared = it.declared;
  whole = it.whole;
}

pub known_of_more : (bytes more : List ℕ) (seen : ℕ) (whole : Option ℕ) → IsKnown bytes seen whole → IsKnown (bytes ++ more) seen whole
known_of_more bytes more seen None it = (omega (arith, it.0, length-append bytes more), open_of_more bytes more seen it.0 it.1)
known_of_more bytes more seen (Some whole) it = begins_of_more bytes more whole it

pub grown : (ok : Bool) (old came new : List ℕ) (seen : ℕ) (whole : Option ℕ) → new ≡ (if ok then old ++ came else old) → IsKnown old seen whole → IsKnown new seen whole
grown true old came new seen whole is it = subst (λ l. IsKnown l seen whole) (sym is) (known_of_more old came seen whole it)
grown false old came new seen whole is it = subst (λ l. IsKnown l seen whole) (sym is) it

-- ---- what is known of the front

pub looked : (bytes slice : List ℕ) (seen : ℕ) (whole : Option ℕ) (front : Front) → ∥ IsKnown bytes seen whole ∥₁ → whole ≡ None → slice ≡ bytes
    → (IsOpenBelow seen slice → IsFront slice front) → ∥ IsFront bytes front ∥₁
looked bytes slice seen whole front known none same by_seen =
    ∥∥₁_elim known (hlevel props) (λ it. merely (subst (λ l. IsFront l front) same (by_seen (subst (λ l. IsOpenBelow seen l) (sym same) (subst (λ w. IsKnown bytes seen w) none it).1))))

pub stays_open : (bytes : List ℕ) (seen : ℕ) (whole : Option ℕ) (front : Front) → whole ≡ None → seen ≡ length bytes → front ≡ Front.Open → ∥ IsFront bytes front ∥₁ → ∥ IsKnown bytes seen whole ∥₁
stays_open bytes seen whole front none all is known =
    ∥∥₁_elim known (hlevel props) (λ it. merely (subst (λ w. IsKnown bytes seen w) (sym none) (omega (arith, all), subst (λ n. IsOpenBelow n bytes) (sym all) (subst (IsFront bytes) is it))))

pub is_begun : (bytes : List ℕ) (seen whole : ℕ) (front : Front) → front ≡ Front.Whole whole → ∥ IsFront bytes front ∥₁ → ∥ IsKnown bytes seen (Some whole) ∥₁
is_begun bytes seen whole front is known = subst (λ f. ∥ IsFront bytes f ∥₁) is known

pub known_same : (old new : List ℕ) (seen : ℕ) (whole : Option ℕ) → new ≡ old → ∥ IsKnown old seen whole ∥₁ → ∥ IsKnown new seen whole ∥₁
known_same old new seen whole same known = subst (λ l. ∥ IsKnown l seen whole ∥₁) (sym same) known

-- ---- what is awaited by it

pub awaited_open : (bytes : List ℕ) (front : Front) → front ≡ Front.Open → ∥ IsFront bytes front ∥₁ → ∥ IsAwaited bytes true ∥₁
awaited_open bytes front is known =
    ∥∥₁_elim known (hlevel props) (λ it. merely (inl (subst (IsFront bytes) is it)))

pub awaited_more : (bytes : List ℕ) (front : Front) (whole : ℕ) → front ≡ Front.Whole whole → length bytes < whole → ∥ IsFront bytes front ∥₁ → ∥ IsAwaited bytes true ∥₁
awaited_more bytes front whole is less known =
    ∥∥₁_elim known (hlevel props) (λ it. merely (inr (whole, subst (IsFront bytes) is it, less)))

pub awaited_whole : (bytes : List ℕ) (front : Front) (whole : ℕ) → front ≡ Front.Whole whole → whole ≤ length bytes → ∥ IsFront bytes front ∥₁ → ∥ IsAwaited bytes false ∥₁
awaited_whole bytes front whole is all known =
    ∥∥₁_elim known (hlevel props) (λ it. merely (inr (whole, subst (IsFront bytes) is it, all)))

pub awaited_refused : (bytes : List ℕ) → ∥ AreRefused bytes ∥₁ → ∥ IsAwaited bytes false ∥₁
awaited_refused bytes known = ∥∥₁_elim known (hlevel props) (λ it. merely (inl it))

-- ---- what a read gave

pub taken_in : {E : Type 0} (read : Result ℕ E) (old new : Option (List ℕ)) (buf before after : List ℕ) (Room : Type 0) → ReadsAtMost read buf → ReadConsumes old new read buf
    → (IsErr read → after ≡ before) → IfOk read (λ count. count ≤ length buf → Room → after ≡ before ++ take count buf) → Room
    → (came : List ℕ) × Consumes old new came × (after ≡ before ++ came)
taken_in (Ok count) old new buf before after Room few consumes unread put room =
    (take count buf, consumes.0, put (omega (arith, few.0)) room)
taken_in (Err error) old new buf before after Room few keeps unread put room =
    ([], Consumes-kept old old new [] (Consumes-nil old) keeps, unread refl ∙ sym (append-nil before))
