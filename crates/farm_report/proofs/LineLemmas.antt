-- One more line of a report.
use Rattle.std.proofs.Common.{ℕ, ◌+◌, ◌<◌, ◌≡◌, ◌∙◌, List, [], ◌∷◌, ◌++◌, length, slice_index_or, take, ap, append_assoc, refl}
use Rattle.std.proofs.lemmas.List.{take_more}
use Rattle.farm_report.specs.Lines.{AreLines}

pub lines_more : {R : Type 0} (IsLine : R → List ℕ → Type 0) (rows : List R) (row : R) (text line : List ℕ)
    → AreLines IsLine rows text → IsLine row line → AreLines IsLine (rows ++ row ∷ []) (text ++ (line ++ 10 ∷ []))
lines_more IsLine [] row text line lines is = (line, [], is, refl, ap (λ t. t ++ (line ++ 10 ∷ [])) lines)
lines_more IsLine (r ∷ rs) row text line lines is = (
  lines.0,
  lines.1 ++ (line ++ 10 ∷ []),
  lines.2,
  lines_more IsLine rs row lines.1 line lines.3 is,
  ap (λ t. t ++ (line ++ 10 ∷ [])) lines.4 ∙ append_assoc lines.0 (10 ∷ lines.1) (line ++ 10 ∷ []),
)

-- the next row's line
pub lines_next : {R : Type 0} (IsLine : R → List ℕ → Type 0) (rows : List R) (k : ℕ) (row : R) (text line new : List ℕ) → k < length rows
    → slice_index_or rows k row ≡ row → AreLines IsLine (take k rows) text → IsLine row line → new ≡ text ++ (line ++ 10 ∷ [])
    → AreLines IsLine (take (k + 1) rows) new
lines_next IsLine rows k row text line new inside at lines is longer =
    let taken : take (k + 1) rows ≡ take k rows ++ row ∷ [] = take_more rows k row inside ∙ ap (λ r. take k rows ++ r ∷ []) at in
    rw (taken, longer) (lines_more IsLine (take k rows) row text line lines is)
