-- A lab file's commands add types and boards, and no others do.
use Rattle.std.proofs.Common.{◌≡◌, ℕ, List, [], ◌∷◌, ◌++◌, map, refl, subst, Ok, Err, Vec, Global, arith}
use Rattle.std.specs.Prelude.{Result, Option, Some, None, codes, IfOk}
use Rattle.std.specs.List.{All, AllByRecursion}
use Rattle.std.proofs.lemmas.List.Elements.{All-cons}
use Rattle.toml.specs.Data.{Data, Members, no_members, member, get, as_table}
use Rattle.farm_types.specs.Names.{OrNoMemory, ◌>>=◌}
use Rattle.farm_types.specs.declared.calls.Call.{Call}
use Rattle.farm_types.specs.declared.calls.Cmd.{Cmd}
use Rattle.farm_jobfile.specs.Reading.{Fault, text_fault, kind_or}
use Rattle.farm_jobfile.specs.Fields.{name_or, name_in, tags_in}
use Rattle.farm_jobfile.specs.Lab.{LabCall, entry_of, given_entry, check_in, own_tags, type_in, board_in, entries_of, section, calls_in, IsAddition}
use Rattle.farm_jobfile.specs.declared.fault.FileKind.TheVariants.{LabFile}
use Rattle.farm_jobfile.specs.declared.fault.FileFault.{FileFault}

-- where two readings gave a value, the first did
first_ok : {A B : Type 0} (r : Result A Fault) (f : A → Result B Fault) (y : B) → (r >>= f) ≡ Ok y → (x : A) × (r ≡ Ok x) × (f x ≡ Ok y)
first_ok (Ok x) f y e = (x, refl, e)
first_ok (Err fault) f y e = absurd (cc)

abbrev Adds : LabCall → Type 0
Adds e = IsAddition e.cmd

abbrev AllAdd : List LabCall → Type 0
AllAdd = AllByRecursion Adds

-- what was read is a value
abbrev Read : Type 0 → Type 0
Read A = Result A Fault

value_of : {A : Type 0} (r : Read A) (x y : A) → r ≡ Ok x → r ≡ Ok y → x ≡ y
value_of r x y e h = cc

adds_as : (r : Read LabCall) (e f : LabCall) → r ≡ Ok e → r ≡ Ok f → Adds e → Adds f
adds_as r e f h k a = subst Adds (value_of r e f h k) a

type_adds : (now : ℕ) (name : List ℕ) (d : Data) (e : LabCall) → type_in now name d ≡ Ok e → Adds e
unfolding type_in
type_adds now name d e h =
    let (kind, _, h1) = first_ok (name_or name) _ e h in
    let (_, _, h2) = first_ok (kind_or LabFile (as_table d)) _ e h1 in
    let (check, _, h3) = first_ok (check_in d) _ e h2 in
    adds_as (Ok (given_entry (codes "type.") kind now (Cmd.AddType kind check))) _ e refl h3 tt

board_adds : (now : ℕ) (name : List ℕ) (d : Data) (e : LabCall) → board_in now name d ≡ Ok e → Adds e
unfolding board_in
board_adds now name d e h =
    let (board, _, h1) = first_ok (name_or name) _ e h in
    let (_, _, h2) = first_ok (kind_or LabFile (as_table d)) _ e h1 in
    let (kind, _, h3) = first_ok (name_in LabFile (codes "type") d) _ e h2 in
    let (tags, _, h4) = first_ok (tags_in LabFile d) _ e h3 in
    let (own, _, h5) = first_ok (own_tags tags) _ e h4 in
    adds_as (Ok (given_entry (codes "board.") board now (Cmd.AddBoard board kind own))) _ e refl h5 tt

all_as : (r : Read (List LabCall)) (es fs : List LabCall) → r ≡ Ok es → r ≡ Ok fs → AllAdd es → AllAdd fs
all_as r es fs h k a = subst AllAdd (value_of r es fs h k) a

both_add : (es fs : List LabCall) → AllAdd es → AllAdd fs → AllAdd (es ++ fs)
both_add [] fs h k = k
both_add (e ∷ es) fs h k = (h.0, both_add es fs h.1 k)

each_adds : (read : List ℕ → Data → Read LabCall) → ((name : List ℕ) (d : Data) (e : LabCall) → read name d ≡ Ok e → Adds e)
    → (ms : Members) (es : List LabCall) → entries_of read ms ≡ Ok es → AllAdd es
each_adds read one no_members es h = all_as (Ok []) [] es refl h tt
each_adds read one (member name d rest) es h =
    let (here, first, h1) = first_ok (read name d >>= λ e. Ok (e ∷ [])) _ es h in
    let (e, is, h2) = first_ok (read name d) _ here first in
    let (more, there, h3) = first_ok (entries_of read rest) _ es h1 in
    all_as (Ok (here ++ more)) (here ++ more) es refl h3
    (both_add here more (all_as (Ok (e ∷ [])) (e ∷ []) here refl h2 (one name d e is, tt)) (each_adds read one rest more there))

section_adds : (read : List ℕ → Data → Read LabCall) → ((name : List ℕ) (d : Data) (e : LabCall) → read name d ≡ Ok e → Adds e)
    → (field : Option Data) (es : List LabCall) → section read field ≡ Ok es → AllAdd es
section_adds read one None es h = all_as (Ok []) [] es refl h tt
section_adds read one (Some d) es h =
    let (ms, _, h1) = first_ok (kind_or LabFile (as_table d)) _ es h in
    each_adds read one ms es h1

entries_add : (now : ℕ) (d : Data) (es : List LabCall) → calls_in now d ≡ Ok es → AllAdd es
unfolding calls_in
entries_add now d es h =
    let (types, t, h1) = first_ok (section (type_in now) (get (codes "types") d)) _ es h in
    let (boards, b, h2) = first_ok (section (board_in now) (get (codes "boards") d)) _ es h1 in
    all_as (Ok (types ++ boards)) (types ++ boards) es refl h2
    (both_add types boards (section_adds (type_in now) (type_adds now) _ types t) (section_adds (board_in now) (board_adds now) _ boards b))

calls_add : (calls : List Call) → AllAdd (map entry_of calls) → All (λ call. IsAddition call.cmd) calls
calls_add [] h = λ k d low. absurd (omega arith)
calls_add (call ∷ calls) h = All-cons (λ (c : Call). IsAddition c.cmd) call calls h.0 (calls_add calls h.1)

-- each call that a tree spells adds a type or a board
pub calls_in_add : (now : ℕ) (d : Data) (result : Result (Vec Call Global) FileFault)
    → OrNoMemory text_fault (λ (calls : Vec Call Global). map entry_of calls.items) result (calls_in now d)
    → IfOk result (λ calls. All (λ call. IsAddition call.cmd) calls.items)
calls_in_add now d (Ok calls) h = calls_add calls.items (entries_add now d (map entry_of calls.items) h)
calls_in_add now d (Err fault) h = tt
