-- The first page of a new farm's file, in SQLite's file format, before it has a table. A number
-- there has its highest byte first.
use Rattle.std.specs.Prelude.{ℕ, [], ◌∷◌, ◌++◌, List, codes}
use Rattle.std.specs.List.{repeat}

-- so many zeros
abbrev pub zeros : ℕ → List ℕ
zeros count = repeat count (0 ∷ [])

-- a number below 256, in four bytes
abbrev pub four_bytes : ℕ → List ℕ
four_bytes number = zeros 3 ++ number ∷ []

-- the text with which each database begins
abbrev pub database_text : List ℕ
database_text = codes "SQLite format 3" ++ 0 ∷ []

-- the head of the database (1.3): its text; pages of 1,024 bytes; written and read with a log beside
-- it (2, 2), no bytes kept, and the three fractions that are always so; never changed; of one page
abbrev pub database_head : List ℕ
database_head =
    database_text ++ (4 ∷ 0 ∷ 2 ∷ 2 ∷ 0 ∷ 64 ∷ 32 ∷ 32 ∷ []
    ++ (zeros 4 ++ (four_bytes 1
    -- no free pages; the first list of tables, of format 4; texts in UTF-8; version 3.45 wrote it
    ++ (zeros 8 ++ (four_bytes 1 ++ (four_bytes 4 ++ (zeros 8 ++ (four_bytes 1 ++ (zeros 36
    ++ 0 ∷ 46 ∷ 118 ∷ 136 ∷ [])))))))))

-- the head of a page (1.6): a leaf of a table, without a row, whose rows will stand before its end
abbrev pub leaf_head : List ℕ
leaf_head = 13 ∷ 0 ∷ 0 ∷ 0 ∷ 0 ∷ 4 ∷ 0 ∷ 0 ∷ []

-- both, with which the first page begins
abbrev pub page_head : List ℕ
page_head = database_head ++ leaf_head

-- the first page
abbrev pub first_page : List ℕ
first_page = page_head ++ zeros 916
