-- The lines that the program writes.
use Rattle.std.specs.Prelude.{◌≡◌, ℕ, true, false, List, [], ◌∷◌, ◌++◌, codes, decimal, Option, Some, None, Result, Ok, Err}
use Rattle.std.specs.Io.KnownBytes.{Appends, Keeps}
use Rattle.farm_types.specs.Names.{refusal_text}
use Rattle.farm_types.specs.declared.refusal.Refusal.{Refusal}
use Rattle.farm_serve.specs.Ends.{Writes}
use Rattle.farm_serve.specs.Faults.{desk_fault_code}
use Rattle.farm_serve.specs.declared.fault.DeskFault.{DeskFault}
use Rattle.farm_serve.specs.declared.lab_import.ImportEnd.{ImportEnd}
use Rattle.farm_desk.specs.declared.orders.End.{End}

-- so many commands of a lab file were accepted, and so many had been before
abbrev pub counts_line : ℕ → ℕ → List ℕ
counts_line accepted kept =
    (((codes "accepted " ++ decimal accepted) ++ codes ", kept ") ++ decimal kept) ++ codes "\n"

-- clients are accepted on this port
abbrev pub port_line : ℕ → List ℕ
port_line port = (codes "listening " ++ decimal port) ++ codes "\n"

-- a farm was made
abbrev pub ready_line : List ℕ
ready_line = codes "ready" ++ 10 ∷ []

-- a farm was brought to this edition
abbrev pub migrated_line : List ℕ
migrated_line = codes "migrated" ++ 10 ∷ []

-- a fault of this number
abbrev pub fault_line : ℕ → List ℕ
fault_line code =
    codes "farm: " ++ (decimal code ++ (codes " " ++ (refusal_text code ++ 10 ∷ [])))

-- a refusal of this number, at that place of a lab file
abbrev pub refusal_line : ℕ → ℕ → List ℕ
refusal_line code place =
    codes "farm: "
    ++ (decimal code
    ++ (codes " " ++ (refusal_text code ++ (codes " at " ++ (decimal place ++ 10 ∷ [])))))

-- what is printed beside the output of an order that ended so
abbrev pub error_line : Result End DeskFault → List ℕ
error_line (Ok (End.RefusedAt place refusal)) = refusal_line refusal.code place
error_line (Ok end) = []
error_line (Err fault) = fault_line (desk_fault_code fault)

-- a writer gained a part of the bytes from their front on, perhaps all of them
pub record WritesPart (held holds : Option (List ℕ)) (bytes : List ℕ) : Type 0 where
  pub part : List ℕ
  pub rest : List ℕ
  pub bytes_are : bytes ≡ part ++ rest
  pub written : Appends held holds part

-- the line of an order that was done is printed; or the output, which has such room, had none for
-- it
abbrev pub PrintsLine : (ℕ → Type 0) → Option (List ℕ) → Option (List ℕ) → List ℕ
    → Result End DeskFault → Type 0
PrintsLine Room held holds line (Ok end) = (end ≡ End.Done) × Writes Room false held holds line
PrintsLine Room held holds line (Err fault) = (fault ≡ DeskFault.Write)
    × Writes Room true held holds line

-- an import that met a fault ends with it, and one that met a refusal with its place and the
-- refusal: neither prints anything; any other prints its line
abbrev pub PrintsImportBy : (ℕ → Type 0) → Option DeskFault → Option (ℕ × Refusal) → List ℕ
    → Option (List ℕ) → Option (List ℕ) → Result End DeskFault → Type 0
PrintsImportBy Room (Some fault) stopped line held holds result = (result ≡ Err fault)
    × Keeps held holds
PrintsImportBy Room None (Some stop) line held holds result =
    (result ≡ Ok (End.RefusedAt stop.0 stop.1)) × Keeps held holds
PrintsImportBy Room None None line held holds result = PrintsLine Room held holds line result

abbrev pub PrintsImport : (ℕ → Type 0) → ImportEnd → Option (List ℕ) → Option (List ℕ)
    → Result End DeskFault → Type 0
PrintsImport Room imported held holds result =
    PrintsImportBy Room imported.fault imported.stopped
    (counts_line imported.accepted imported.kept) held holds result
