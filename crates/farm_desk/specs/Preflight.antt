-- The path of a log, and where a new farm may be made, by what there is at the paths of its file and
-- of its log; what the first bytes of both say.
use Rattle.std.specs.Prelude.{◌≡◌, ◌++◌, ◌<◌, ℕ, List, codes, drop, slice_index, take, ⊤}
use Rattle.std.specs.Fs.{file_type, metadata_len, IsFile}
use Rattle.std.specs.declared.fs.attrs.Metadata.{Metadata}
use Rattle.farm_desk.specs.NewFile.{database_text}
use Rattle.farm_desk.specs.declared.preflight.PathState.{PathState}

-- the path of the log beside the file of a path
abbrev pub log_path_of : List ℕ → List ℕ
log_path_of file = file ++ codes "-wal"

-- the path is that of the log beside some file
abbrev pub IsLogPath : List ℕ → Type 0
IsLogPath path = (file : List ℕ) × (path ≡ log_path_of file)

-- there is no log, or one without a byte
abbrev pub IsNoLog : PathState → Type 0
IsNoLog PathState.Nothing = ⊤
IsNoLog PathState.Empty = ⊤
IsNoLog state = ⊥

-- a new farm may be made in a database, and where there is no file or an empty one without a log
abbrev pub MayBeNew : PathState → PathState → Type 0
MayBeNew PathState.Database log = ⊤
MayBeNew PathState.Other log = ⊥
MayBeNew file log = IsNoLog log

-- ---- looks

-- a file without a byte
abbrev pub IsEmptyFile : Metadata → Type 0
IsEmptyFile found = IsFile (file_type found) × (metadata_len found ≡ 0)

-- a file with bytes
abbrev pub HasBytes : Metadata → Type 0
HasBytes found = IsFile (file_type found) × (0 < metadata_len found)

-- ---- first bytes

-- the head of a log's first page has the salts of the log's head, eight bytes each
abbrev pub HasPage : List ℕ → Type 0
HasPage heads = take 8 (drop 16 heads) ≡ take 8 (drop 40 heads)

-- they are a database's, but perhaps for the very first, and its list of tables is a leaf without a
-- row
pub record HasNoTable (first : List ℕ) : Type 0 where
  pub text : take 15 (drop 1 first) ≡ drop 1 database_text
  pub leaf : slice_index first 100 ≡ 13
  pub high : slice_index first 103 ≡ 0
  pub low : slice_index first 104 ≡ 0
