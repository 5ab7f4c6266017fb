-- The words of a sound farm are words.
use native.Mathlib.Omega.{arith}
use Rattle.std.proofs.Common.{[], inl, inr, ℕ, List, ◌∷◌, Option, None, Some, IfSome, IsSome, IsTrue, subst}
use Rattle.farm_store.proofs.Names.{AllByRecursion, cases_Bool, Farm, find}
use Rattle.std.specs.Str.{bytes_eq}
use Rattle.std.proofs.lemmas.Slice.Eq.{bytes_eq-Decides}
use Rattle.farm_types.specs.Words.{IsName, IsTags}
use Rattle.farm_types.specs.Proper.{is_want}
use Rattle.farm_types.specs.Sound.{IsSound, IsBoardRow, IsBoardOf, IsJobText, texts_of}
use Rattle.farm_types.specs.declared.rows.Want.{Want}
use Rattle.farm_types.proofs.Put.{AllByRecursion-weaker}
use Rattle.farm_store.specs.Readable.{IsReadable, IsReadableType}

-- a name that was found among names is one
found_name : {R : Type 0} (name_of : R → List ℕ) (rows : List R) → AllByRecursion (λ r. IsName (name_of r)) rows → (name : List ℕ) → IsSome (find (λ r. bytes_eq (name_of r) name) rows) → IsName name
found_name name_of [] names name found = absurd (let e = found in cc)
found_name name_of (r ∷ rows) names name found = elim (cases_Bool (bytes_eq (name_of r) name)) [
  | inl same ↦ subst IsName ((bytes_eq-Decides (name_of r) name).0 same) names.0
  | inr other ↦ found_name name_of rows names.1 name (rw other at found)
]

want_kind : (w : Want) → IsTrue (is_want w) → IfSome w.kind IsName × IsTags w.tags
want_kind w want = grind arith

named_board : (F : Farm) → AllByRecursion (IsBoardRow F) F.boards → (board : Option (List ℕ)) → IsBoardOf F board → IfSome board IsName
named_board F boards None known = tt
named_board F boards (Some name) known = found_name (λ r. r.name) F.boards (AllByRecursion-weaker (λ r is. is.words.name) F.boards boards) name known

pub sound_is_readable : (F : Farm) → IsSound F → IsReadable F
sound_is_readable F sound =
    let steady = sound.steady in
    let names : AllByRecursion IsReadableType F.types = AllByRecursion-weaker (λ r is. is.name) F.types steady.types in
    record {
      types = names;
      boards = AllByRecursion-weaker (λ r is. record { name = is.words.name; kind = found_name (λ t. t.name) F.types names r.kind is.kind; tags = is.words.tags }) F.boards steady.boards;
      jobs = AllByRecursion-weaker (λ r is. let want = want_kind r.want is.words.want in
          record { owner = is.words.owner; priority = is.words.priority; kind = want.0; tags = want.1; role = is.words.role; board = named_board F steady.boards r.board is.board; texts = AllByRecursion-weaker (λ text (is : IsJobText text). is.utf8) (texts_of r) is.words.texts }) F.jobs steady.jobs;
      reservations = AllByRecursion-weaker (λ r is. record { owner = is.owner; priority = is.priority; kind = is.kind; tags = (want_kind r.want is.want).1; board = named_board F steady.boards r.board is.board }) F.reservations steady.reservations;
      kept = AllByRecursion-weaker (λ r is. record { caller = is.caller; key = is.key }) F.kept steady.kept;
    }
