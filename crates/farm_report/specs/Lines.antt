-- The lines of the reports, and a report as its lines.
use Rattle.std.specs.Prelude.{◌≡◌, ℕ, ℤ, List, [], ◌∷◌, ◌++◌, decimal, flat_map, unwrap_or}
use Rattle.farm_types.specs.Names.{claim_word, health_word, holder_text, res_state_word, state_word}
use Rattle.farm_types.specs.declared.rows.BoardRow.{BoardRow}
use Rattle.farm_types.specs.declared.claims.Claim.{Claim}
use Rattle.farm_types.specs.declared.rows.ResRow.{ResRow}
use Rattle.farm_report.specs.Columns.{left_column, right_column, spaced_line}
use Rattle.farm_report.specs.Moments.{ShowsCheck, ShowsMoment}

-- a claim: priority, number, kind, number of wants and owner
abbrev pub claim_line : Claim → List ℕ
claim_line claim = spaced_line (
    right_column 3 claim.priority
    ∷ right_column 9 claim.number
    ∷ left_column 11 (claim_word claim.kind)
    ∷ decimal claim.boards
    ∷ claim.owner
    ∷ []
    )

-- the claims, each on its line
abbrev pub claims_text : List Claim → List ℕ
claims_text claims = flat_map (λ claim. claim_line claim ++ 10 ∷ []) claims

-- a board: health, state, holder, last check, name and type
abbrev pub IsBoardLine : ℤ → BoardRow → List ℕ → Type 0
IsBoardLine ahead row line = (check : List ℕ) × ShowsCheck ahead row.last_check check
    × (line ≡ spaced_line (
    left_column 11 (health_word row.health)
    ∷ left_column 8 (state_word row.state)
    ∷ left_column 21 (holder_text row.holder)
    ∷ left_column 19 check
    ∷ row.name
    ∷ row.kind
    ∷ []
    ))

-- a reservation: number, state, priority, deadline, board or `-`, and owner
abbrev pub IsReservationLine : ℤ → ResRow → List ℕ → Type 0
IsReservationLine ahead row line = (deadline : List ℕ) × ShowsMoment ahead row.deadline deadline
    × (line ≡ spaced_line (
    right_column 9 row.number
    ∷ left_column 9 (res_state_word row.state)
    ∷ right_column 3 row.priority
    ∷ deadline
    ∷ unwrap_or row.board (45 ∷ [])
    ∷ row.owner
    ∷ []
    ))

-- a text of lines, one for each row in order, each with a line feed behind it
abbrev pub AreLines : {R : Type 0} → (R → List ℕ → Type 0) → List R → List ℕ → Type 0
AreLines IsLine [] text = text ≡ []
AreLines IsLine (row ∷ rows) text = (line rest : List ℕ) × IsLine row line
    × AreLines IsLine rows rest
    × (text ≡ line ++ 10 ∷ rest)
