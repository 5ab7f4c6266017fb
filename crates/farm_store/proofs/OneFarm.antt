-- Farms whose words are words are one where their tables are.
use Rattle.std.proofs.Common.{refl, ◌≡◌, ◌≢◌, ℕ, pos, List, [], ◌∷◌, map, Bool, true, false, Option, None, Some, unwrap_or, IfSome, get_or, sym, ap, subst, ◌∙◌}
use Rattle.std.proofs.Common.{arith}
use Rattle.std.specs.Option.{option_map_or}
use Rattle.std.specs.Prelude.{◌==◌}
use Rattle.farm_store.proofs.Names.{AllByRecursion, BoardRow, column, Edition, every_of, Farm, find, health_code, health_with, held_by, Int, IsCollectorIn}
use Rattle.farm_store.proofs.Names.{IsReadableIn, IsReadableJobIn, IsStateIn, job_columns_in, job_state_code, job_state_with, JobRow, JobState, KeptRow}
use Rattle.farm_store.proofs.Names.{meta_rows_in, MetaRow, outcome_code, outcome_with, res_state_code, res_state_with, ResRow, Row, rows_in, state_code}
use Rattle.farm_store.proofs.Names.{state_code_in, state_with, tags_read_back, TypeRow}
use Rattle.farm_types.specs.Words.{IsName, IsTags, is_word}
use Rattle.farm_types.specs.Tags.{tags_text, tags_read}
use Rattle.farm_types.specs.declared.rows.Check.{Check}
use Rattle.farm_types.specs.declared.rows.Health.{Health}
use Rattle.farm_types.specs.declared.rows.Holder.{Holder}
use Rattle.farm_types.specs.declared.rows.Outcome.{Outcome}
use Rattle.farm_types.specs.declared.rows.ResState.{ResState}
use Rattle.farm_types.specs.declared.rows.State.{State}
use Rattle.farm_store.specs.Columns.{rows_of, unit_code, holder_of, checking_code, first_state_code, type_columns, board_columns, res_columns, kept_columns}
use Rattle.farm_store.specs.Columns.{numbers_of}
use Rattle.farm_store.specs.Readable.{IsReadable, IsReadableType, IsReadableBoard, IsReadableRes, IsReadableKept}
use Rattle.farm_store.proofs.EditionLemmas.{collector_in, readable_jobs, spelled, words_in}

same_number : (m n : ℕ) → Int (pos m) ≡ Int (pos n) → m ≡ n
same_number m n e = cc

number_in : (a b : Row) (at : ℕ) (m n : ℕ) → column a at ≡ Int (pos m) → column b at ≡ Int (pos n) → a ≡ b → m ≡ n
number_in a b at m n p q is = same_number m n (sym p ∙ ap (λ r. column r at) is ∙ q)

same_some : {X : Type 0} (a b : X) → Some a ≡ Some b → a ≡ b
same_some a b e = cc

health_back : (x : Health) → health_with (health_code x) ≡ Some x
health_back Health.Good = refl
health_back Health.Bad = refl
health_back Health.Unknown = refl
health_back Health.Maintenance = refl
health_back Health.Retired = refl

state_back : (x : State) → state_with (state_code x) ≡ Some x
state_back State.Idle = refl
state_back State.Reserved = refl
state_back State.Running = refl

job_state_back : (x : JobState) → job_state_with (job_state_code x) ≡ Some x
job_state_back JobState.Submitted = refl
job_state_back JobState.Scheduling = refl
job_state_back JobState.Scheduled = refl
job_state_back JobState.Running = refl
job_state_back JobState.Canceling = refl
job_state_back JobState.Finished = refl

abbrev first_state_with : ℕ → Option JobState
first_state_with code = find (λ x. first_state_code x == code) (JobState.Submitted ∷ JobState.Scheduled ∷ JobState.Running ∷ JobState.Canceling ∷ JobState.Finished ∷ [])

first_back : (x : JobState) → x ≢ JobState.Scheduling → first_state_with (first_state_code x) ≡ Some x
first_back JobState.Submitted other = refl
first_back JobState.Scheduling other = absurd (other refl)
first_back JobState.Scheduled other = refl
first_back JobState.Running other = refl
first_back JobState.Canceling other = refl
first_back JobState.Finished other = refl

outcome_back : (x : Option Outcome) → outcome_with (option_map_or outcome_code x 0) ≡ x
outcome_back None = refl
outcome_back (Some Outcome.Complete) = refl
outcome_back (Some Outcome.Incomplete) = refl
outcome_back (Some Outcome.Infra) = refl
outcome_back (Some Outcome.Canceled) = refl

res_state_back : (x : ResState) → res_state_with (res_state_code x) ≡ Some x
res_state_back ResState.Waiting = refl
res_state_back ResState.Allocated = refl
res_state_back ResState.Acquired = refl
res_state_back ResState.Expired = refl
res_state_back ResState.Canceled = refl

-- a code that reads back is of one thing
same_code : {X : Type 0} (code : X → ℕ) (with_code : ℕ → Option X) → ((x : X) → with_code (code x) ≡ Some x) → (a b : X) → code a ≡ code b → a ≡ b
same_code code with_code back a b e = same_some a b (sym (back a) ∙ ap with_code e ∙ back b)

same_check : (a b : Check) → unit_code a ≡ unit_code b → every_of a ≡ every_of b → a ≡ b
same_check Check.Never Check.Never unit every = refl
same_check (Check.Hours m) (Check.Hours n) unit every = ap (λ k. Check.Hours k) every
same_check (Check.Jobs m) (Check.Jobs n) unit every = ap (λ k. Check.Jobs k) every
same_check Check.Never (Check.Hours n) unit every = absurd (omega (arith, unit))
same_check Check.Never (Check.Jobs n) unit every = absurd (omega (arith, unit))
same_check (Check.Hours m) Check.Never unit every = absurd (omega (arith, unit))
same_check (Check.Hours m) (Check.Jobs n) unit every = absurd (omega (arith, unit))
same_check (Check.Jobs m) Check.Never unit every = absurd (omega (arith, unit))
same_check (Check.Jobs m) (Check.Hours n) unit every = absurd (omega (arith, unit))

same_holder : (a b : Holder) → holder_of a ≡ holder_of b → held_by a ≡ held_by b → a ≡ b
same_holder Holder.Nobody Holder.Nobody kind number = refl
same_holder (Holder.Job m) (Holder.Job n) kind number = ap (λ k. Holder.Job k) number
same_holder (Holder.Res m) (Holder.Res n) kind number = ap (λ k. Holder.Res k) number
same_holder Holder.Nobody (Holder.Job n) kind number = absurd (omega (arith, kind))
same_holder Holder.Nobody (Holder.Res n) kind number = absurd (omega (arith, kind))
same_holder (Holder.Job m) Holder.Nobody kind number = absurd (omega (arith, kind))
same_holder (Holder.Job m) (Holder.Res n) kind number = absurd (omega (arith, kind))
same_holder (Holder.Res m) Holder.Nobody kind number = absurd (omega (arith, kind))
same_holder (Holder.Res m) (Holder.Job n) kind number = absurd (omega (arith, kind))

same_checking : (a b : Bool) → checking_code a ≡ checking_code b → a ≡ b
same_checking true true e = refl
same_checking false false e = refl
same_checking true false e = absurd (omega (arith, e))
same_checking false true e = absurd (omega (arith, e))

no_empty_name : IsName [] → ⊥
unfolding is_word
no_empty_name h = let e = h in cc

same_name : (a b : Option (List ℕ)) → IfSome a IsName → IfSome b IsName → unwrap_or a [] ≡ unwrap_or b [] → a ≡ b
same_name None None p q e = refl
same_name None (Some t) p q e = absurd (no_empty_name (subst IsName (sym e) q))
same_name (Some s) None p q e = absurd (no_empty_name (subst IsName e p))
same_name (Some s) (Some t) p q e = ap (λ n. Some n) e

same_tags : (a b : List (List ℕ)) → IsTags a → IsTags b → tags_text a ≡ tags_text b → a ≡ b
same_tags a b p q e = let both = sym (tags_read_back a p) ∙ ap tags_read e ∙ tags_read_back b q in cc

same_type : (x y : TypeRow) → IsReadableType x → IsReadableType y → type_columns x ≡ type_columns y → x ≡ y
same_type x y p q is =
    let check = same_check x.check y.check (cc) (cc) in
    let whole : record x { name = x.name } ≡ record y { name = y.name } = cc in
    whole

same_board : (x y : BoardRow) → IsReadableBoard x → IsReadableBoard y → board_columns x ≡ board_columns y → x ≡ y
same_board x y p q is =
    let tags = same_tags x.tags y.tags p.tags q.tags (cc) in
    let health = same_code health_code health_with health_back x.health y.health (cc) in
    let state = same_code state_code state_with state_back x.state y.state (cc) in
    let holder = same_holder x.holder y.holder (cc) (cc) in
    let whole : record x { name = x.name } ≡ record y { name = y.name } = cc in
    whole

same_state : (e : Edition) (a b : JobState) → IsStateIn e a → IsStateIn e b → state_code_in e a ≡ state_code_in e b → a ≡ b
same_state Edition.First a b p q is = same_some a b (sym (first_back a p) ∙ ap first_state_with is ∙ first_back b q)
same_state Edition.Second a b p q is = same_code job_state_code job_state_with job_state_back a b is

same_job : (e : Edition) (x y : JobRow) → IsReadableJobIn e x → IsReadableJobIn e y → job_columns_in e x ≡ job_columns_in e y → x ≡ y
same_job e x y p q is =
    let checking = same_checking x.checking y.checking (cc) in
    let kind = same_name x.want.kind y.want.kind p.words.kind q.words.kind (cc) in
    let tags = same_tags x.want.tags y.want.tags p.words.tags q.words.tags (cc) in
    let role = same_name x.role y.role p.words.role q.words.role (cc) in
    let state = same_state e x.state y.state p.state q.state (cc) in
    let code : option_map_or outcome_code x.outcome 0 ≡ option_map_or outcome_code y.outcome 0 = cc in
    let outcome = sym (outcome_back x.outcome) ∙ ap outcome_with code ∙ outcome_back y.outcome in
    let board = same_name x.board y.board p.words.board q.words.board (cc) in
    let whole : record x { want = record x.want { kind = x.want.kind } } ≡ record y { want = record y.want { kind = y.want.kind } } = cc in
    whole

same_res : (x y : ResRow) → IsReadableRes x → IsReadableRes y → res_columns x ≡ res_columns y → x ≡ y
same_res x y p q is =
    let kind = p.kind ∙ sym q.kind in
    let tags = same_tags x.want.tags y.want.tags p.tags q.tags (cc) in
    let state = same_code res_state_code res_state_with res_state_back x.state y.state (cc) in
    let board = same_name x.board y.board p.board q.board (cc) in
    let whole : record x { want = record x.want { kind = x.want.kind } } ≡ record y { want = record y.want { kind = y.want.kind } } = cc in
    whole

same_kept : (x y : KeptRow) → IsReadableKept x → IsReadableKept y → kept_columns x ≡ kept_columns y → x ≡ y
same_kept x y p q is =
    let whole : record x { reply = (x.reply.0, x.reply.1, x.reply.2) } ≡ record y { reply = (y.reply.0, y.reply.1, y.reply.2) } = cc in
    whole

same_rows : {X : Type 0} (IsGood : X → Type 0) (columns : X → Row) → ((x y : X) → IsGood x → IsGood y → columns x ≡ columns y → x ≡ y)
    → (xs ys : List X) → AllByRecursion IsGood xs → AllByRecursion IsGood ys → map columns xs ≡ map columns ys → xs ≡ ys
same_rows IsGood columns one [] [] p q is = refl
same_rows IsGood columns one [] (y ∷ ys) p q is = absurd (let e = is in cc)
same_rows IsGood columns one (x ∷ xs) [] p q is = absurd (let e = is in cc)
same_rows IsGood columns one (x ∷ xs) (y ∷ ys) p q is =
    let head : columns x ≡ columns y = cc in
    let tail : map columns xs ≡ map columns ys = cc in
    let first = one x y p.0 q.0 head in
    let more = same_rows IsGood columns one xs ys p.1 q.1 tail in
    cc

-- the number in the row of a list
number_at : (rows others : List Row) (at : ℕ) (m n : ℕ) → column (get_or rows at []) 1 ≡ Int (pos m) → column (get_or others at []) 1 ≡ Int (pos n) → rows ≡ others → m ≡ n
number_at rows others at m n p q is = number_in (get_or rows at []) (get_or others at []) 1 m n p q (ap (λ l. get_or l at []) is)

same_numbers : (e : Edition) (a b : MetaRow) → IsCollectorIn e a.collector → IsCollectorIn e b.collector → meta_rows_in e a ≡ meta_rows_in e b → a ≡ b
same_numbers Edition.First a b p q is =
    let at = number_at (meta_rows_in Edition.First a) (meta_rows_in Edition.First b) in
    let clock = at 0 a.clock b.clock refl refl is in
    let collector = p ∙ sym q in
    let count = at 1 a.count b.count refl refl is in
    let next = at 2 a.next b.next refl refl is in
    λ i. record { clock = clock i; collector = collector i; count = count i; next = next i }
same_numbers Edition.Second a b p q is =
    let at = number_at (meta_rows_in Edition.Second a) (meta_rows_in Edition.Second b) in
    let clock = at 0 a.clock b.clock refl refl is in
    let collector = at 1 a.collector b.collector refl refl is in
    let count = at 2 a.count b.count refl refl is in
    let next = at 3 a.next b.next refl refl is in
    λ i. record { clock = clock i; collector = collector i; count = count i; next = next i }

pub one_farm_in : (e : Edition) (F G : Farm) → IsReadableIn e F → IsReadableIn e G → rows_in e F ≡ rows_in e G → F ≡ G
one_farm_in e F G p q is =
    let T = rows_in e G in
    let p_words = words_in e F p in
    let q_words = words_in e G q in
    let p_rows = spelled e F T is in
    let q_rows = spelled e G T refl in
    let types = same_rows IsReadableType type_columns same_type F.types G.types p_words.types q_words.types (sym p_rows.types ∙ q_rows.types) in
    let boards = same_rows IsReadableBoard board_columns same_board F.boards G.boards p_words.boards q_words.boards (sym p_rows.boards ∙ q_rows.boards) in
    let jobs = same_rows (IsReadableJobIn e) (job_columns_in e) (same_job e) F.jobs G.jobs (readable_jobs e F p) (readable_jobs e G q)
    (sym p_rows.jobs ∙ q_rows.jobs) in
    let reservations = same_rows IsReadableRes res_columns same_res F.reservations G.reservations p_words.reservations q_words.reservations (sym p_rows.reservations ∙ q_rows.reservations) in
    let kept = same_rows IsReadableKept kept_columns same_kept F.kept G.kept p_words.kept q_words.kept (sym p_rows.kept ∙ q_rows.kept) in
    let numbers : numbers_of F ≡ numbers_of G = same_numbers e (numbers_of F) (numbers_of G) (collector_in e F p) (collector_in e G q) (sym p_rows.meta ∙ q_rows.meta) in
    λ i. record { types = types i; boards = boards i; jobs = jobs i; reservations = reservations i; kept = kept i; clock = (numbers i).clock; collector = (numbers i).collector; count = (numbers i).count; next = (numbers i).next }

pub one_farm : (F G : Farm) → IsReadable F → IsReadable G → rows_of F ≡ rows_of G → F ≡ G
one_farm F G p q is = one_farm_in Edition.Second F G p q is
