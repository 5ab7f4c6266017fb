-- The columns of a line.
use Rattle.std.specs.Prelude.{ℕ, ◌-◌, List, [], ◌∷◌, ◌++◌, length, decimal}
use Rattle.std.specs.List.{repeat}

-- so many spaces
abbrev pub spaces : ℕ → List ℕ
spaces n = repeat n (32 ∷ [])

-- a text at the left of a column of that width, and a number at its right
abbrev pub left_column : ℕ → List ℕ → List ℕ
left_column width text = text ++ spaces (width - length text)

abbrev pub right_column : ℕ → ℕ → List ℕ
right_column width n = spaces (width - length (decimal n)) ++ decimal n

-- columns with a space between them
abbrev pub spaced_line : List (List ℕ) → List ℕ
spaced_line [] = []
spaced_line (c ∷ []) = c
spaced_line (c ∷ cs) = c ++ 32 ∷ spaced_line cs
