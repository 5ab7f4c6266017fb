-- A part of a line that a writer took; the first bytes of a lab file, and an import without them.
use Rattle.std.proofs.Common.{◌≡◌, ℕ, List, [], Bool, true, false, length, take, drop, refl, sym, ◌∙◌, Ok, Err, ◌⊎◌, ◌++◌, ap, subst, inl, inr}
use Rattle.std.specs.Prelude.{Option, Some, None, Result, IsOk, OnOk, OnErr, IfSome}
use Rattle.std.specs.Io.KnownBytes.{Appends, Keeps, WriteAppends}
use Rattle.std.specs.declared.io.Error.{Error}
use Rattle.std.proofs.lemmas.List.{append-nil, take-append-drop}
use Rattle.farm_http.specs.Faults.{WritesPrefix}
use Rattle.farm_http.specs.declared.fault.WireFault.{WireFault}
use Rattle.farm_serve.specs.Ends.{Writes}
use Rattle.farm_desk.specs.Lines.{WritesPart}
use Rattle.std.specs.Option.{option_map}
use Rattle.std.specs.Io.Take.{take_inner, take_limit, take_remaining}
use Rattle.std.specs.declared.io.traits.Take.{Take}
use Rattle.sqlite_trees.specs.declared.store.Store.{Ghosts}
use Rattle.farm_keep.specs.KeeperState.{KeeperState}
use Rattle.farm_desk.specs.Orders.{ImportsFile}
use Rattle.farm_serve.specs.declared.fault.DeskFault.{DeskFault}

-- what stays gains nothing
pub writes_nothing : (held holds : Option (List ℕ)) → Keeps held holds → Appends held holds []
writes_nothing None holds kept = tt
writes_nothing (Some xs) None kept = absurd kept
writes_nothing (Some xs) (Some ys) kept = kept ∙ sym (append-nil xs)

-- nothing is a part of any line
pub part_none : (held holds : Option (List ℕ)) (line : List ℕ) → Keeps held holds → WritesPart held holds line
part_none held holds line kept = record { part = []; rest = line; bytes_are = refl; written = writes_nothing held holds kept }

-- the first bytes of a line are a part of it
pub part_taken : (held holds : Option (List ℕ)) (line : List ℕ) (n : ℕ) → Appends held holds (take n line) → WritesPart held holds line
part_taken held holds line n written = record { part = take n line; rest = drop n line; bytes_are = sym (take-append-drop n line); written = written }

-- a call of a writer gains a part
pub part_written : (held holds : Option (List ℕ)) (line : List ℕ) (result : Result ℕ Error) → WriteAppends held holds result line → WritesPart held holds line
part_written held holds line (Ok n) written = part_taken held holds line n written
part_written held holds line (Err error) kept = part_none held holds line kept

-- a text that was tried is printed, or for want of room a part of it
pub text_tried : {X : Type 0} (Room : ℕ → Type 0) (held holds : Option (List ℕ)) (text : List ℕ) (result : Result X WireFault)
    → OnOk result (Appends held holds text) → OnErr result (WritesPrefix held holds text) → (Room (length text) → IsOk result) → (failed : Bool) × Writes Room failed held holds text
text_tried Room held holds text (Ok done) whole prefix sure = (false, whole)
text_tried Room held holds text (Err fault) whole prefix sure = (true, (prefix, λ room. absurd (let no : false ≡ true = sure room in cc)))

-- what isn't touched stays
pub keeps_same : (held : Option (List ℕ)) → Keeps held held
keeps_same None = tt
keeps_same (Some xs) = refl

-- ---- lab files

first_bytes : (known : Option (List ℕ)) (n : ℕ) (bytes : List ℕ) → IfSome (option_map (take n) known) (λ some. bytes ≡ some) → IfSome known (λ input. bytes ≡ take n input)
first_bytes None n bytes h = tt
first_bytes (Some input) n bytes h = h

-- what was read to the end of a limited reader are the first bytes of the reader
pub taken_bytes : {R : Type 0} (remaining : R → Option (List ℕ)) (limited : Take R) (reader : R) (n : ℕ) (held bytes : List ℕ)
    → take_limit limited ≡ n → take_inner limited ≡ reader → held ≡ []
    → IfSome (take_remaining remaining limited) (λ some. bytes ≡ held ++ some) → IfSome (remaining reader) (λ input. bytes ≡ take n input)
taken_bytes remaining limited reader n held bytes limit inner empty h =
    let of_reader = subst (λ r. IfSome (option_map (take limited.limit) (remaining r)) (λ some. bytes ≡ held ++ some)) inner h in
    let of_limit = subst (λ l. IfSome (option_map (take l) (remaining reader)) (λ some. bytes ≡ held ++ some)) limit of_reader in
    first_bytes (remaining reader) n bytes (subst (λ e. IfSome (option_map (take n) (remaining reader)) (λ some. bytes ≡ e ++ some)) empty of_limit)

-- where no lab file can be read, nothing is done
pub unread_lab : {S : Type 0} {Room : ℕ → Type 0} (g : Ghosts S) (lab : Option (List ℕ)) (k : KeeperState S) (held : Option (List ℕ)) (now : ℕ) (fault : DeskFault)
    → (fault ≡ DeskFault.NoMemory) ⊎ (fault ≡ DeskFault.Read) → ImportsFile g Room lab k k held held now (Err fault)
unread_lab g lab k held now fault (inl e) = inr (inl (record { fault_is = ap (λ f. Err f) e; unchanged = refl; nothing_written = keeps_same held }))
unread_lab g lab k held now fault (inr e) = inr (inr (record { fault_is = ap (λ f. Err f) e; unchanged = refl; nothing_written = keeps_same held }))
