-- How the kept replies are kept: those that came with the farm packed, and those kept since, and any
-- with larger numbers, in an ordered map, by caller and key.
use Rattle.std.specs.Prelude.{◌≡◌, ◌+◌, ◌++◌, ◌∷◌, ◌^◌, ◌≤◌, ◌==◌, ◌&&◌, ℕ, nat_lt, not, Bool, IsTrue, List, map, length, take, drop}
use Rattle.std.specs.List.{AllByRecursion, list_all, take_while}
use Rattle.std.specs.List.Sorted.{IsStrictlySortedBy}
use Rattle.std.specs.String.{string_bytes}
use Rattle.std.specs.declared.string.String.{String}
use Rattle.std.specs.declared.alloc.Global.{Global}
use Rattle.farm_types.specs.Names.{is_name_byte, IsSmallKept, kept_cmp, put_all}
use Rattle.farm_types.specs.declared.rows.KeptRow.{KeptRow}
use Rattle.farm_core.specs.declared.kept.KeptReply.{KeptReply}
use Rattle.farm_core.specs.declared.kept.packed.Entry.{Entry}
use Rattle.farm_core.specs.declared.kept.packed.Packed.{Packed}

-- the text under which the map has a reply: a space stands below each byte of a name, and in none
abbrev pub joined : List ℕ → List ℕ → List ℕ
joined caller key = caller ++ 32 ∷ key

-- what stands before the space, and behind it
abbrev pub joined_caller : List ℕ → List ℕ
joined_caller text = take_while (λ c. not (c == 32)) text

abbrev pub joined_key : List ℕ → List ℕ
joined_key text = drop (length (joined_caller text) + 1) text

pub record IsJoined (text : List ℕ) : Type 0 where
  pub caller : IsTrue (list_all is_name_byte (joined_caller text))
  pub is : text ≡ joined (joined_caller text) (joined_key text)

abbrev pub AreJoined : List (String Global × KeptReply) → Type 0
AreJoined es = AllByRecursion (λ e. IsJoined (string_bytes e.0)) es

-- the row of a map's entry
abbrev pub kept_row : String Global × KeptReply → KeptRow
kept_row e = record {
  caller = joined_caller (string_bytes e.0);
  key = joined_key (string_bytes e.0);
  kind = e.1.kind;
  reply = e.1.reply;
}

-- the row of a packed entry: its texts are parts of the text of all
abbrev pub entry_row : List ℕ → Entry → KeptRow
entry_row texts e = record {
  caller = take e.caller (drop e.start texts);
  key = take e.key (drop (e.start + e.caller) texts);
  kind = e.kind;
  reply = record { 0 = e.first; 1 = e.second; 2 = e.third };
}

-- and lie within it
abbrev pub LiesIn : List ℕ → Entry → Type 0
LiesIn texts e = e.start + e.caller + e.key ≤ length texts

-- a row whose numbers an entry can hold
abbrev pub is_packable : KeptRow → Bool
is_packable r = nat_lt r.kind (2 ^ 8) && nat_lt r.reply.0 (2 ^ 32) && nat_lt r.reply.1 (2 ^ 32) && nat_lt r.reply.2 (2 ^ 32)

abbrev pub packed_rows : Packed → List KeptRow
packed_rows p = map (entry_row p.texts.items) p.entries.items

-- the rows of both: those of the map are put over the packed ones
abbrev pub kept_rows : Packed → List (String Global × KeptReply) → List KeptRow
kept_rows p es = put_all kept_cmp (packed_rows p) (map kept_row es)

-- what holds of them: the rows of each rise, they are as many as `len`, and the log fits
pub record IsKept (p : Packed) (es : List (String Global × KeptReply)) (len : ℕ) (log : List KeptRow) : Type 0 where
  pub packed : IsStrictlySortedBy kept_cmp (packed_rows p)
  pub others : IsStrictlySortedBy kept_cmp (map kept_row es)
  pub joined : AreJoined es
  pub count : len ≡ length (kept_rows p es)
  pub logged : AllByRecursion IsSmallKept log

-- what is reported of a row that is found
abbrev pub kept_reply : KeptRow → KeptReply
kept_reply r = record { kind = r.kind; reply = r.reply }

-- a row with that caller and key, to be compared with others
abbrev pub asked_row : List ℕ → List ℕ → KeptRow
asked_row caller key = record {
  caller = caller;
  key = key;
  kind = 0;
  reply = record { 0 = 0; 1 = 0; 2 = 0 };
}
