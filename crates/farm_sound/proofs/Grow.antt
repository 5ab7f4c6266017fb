-- A farm that has all that another has.
use Rattle.std.proofs.Common.{◌-◌, ◌<◌, ◌∙◌, ◌≡◌, ◌≤◌, IfSome, IsNone, IsSome, IsSomeAnd, List, None, Option, Some, ap, arith, length, refl, sym, ℕ}
use Rattle.farm_sound.proofs.Names.{AllByRecursion, AllByRecursion-weaker, board_of, BoardRow, bytes_eq, bytes_eq-Decides, Equal, Farm, filter, is_eq}
use Rattle.farm_sound.proofs.Names.{is_eq-slice_cmp, job_of, JobRow, res_of, ResRow, type_of}
use Rattle.std.specs.List.Sorted.{IsStrictlySortedBy}
use Rattle.farm_types.specs.Names.{board_cmp, Follows, IsBoardRow, IsJobRow, IsKeptRow, IsResRow, IsSteady, IsTypeRow, IsWithin, job_cmp, kept_cmp, last_moment}
use Rattle.farm_types.specs.Names.{most_boards_of_type, most_commands, numbers_end, res_cmp, sizes_of, text_cmp, type_cmp}

-- ---- a farm that has all that another has

-- texts that tie are the same
pub same_texts : (a b : List ℕ) → text_cmp a b ≡ Equal → a ≡ b
same_texts a b ties = (bytes_eq-Decides a b).0 (sym (is_eq-slice_cmp a b) ∙ ap is_eq ties)

-- a job of the number that the members after it can follow as they followed p
abbrev pub StillJob : Farm → ℕ → JobRow → Type 0
StillJob G n p = (q : JobRow) × (job_of G n ≡ Some q) × (q.group ≡ p.group) × (q.owner ≡ p.owner) × (q.priority ≡ p.priority) × (q.checking ≡ p.checking)

-- the later farm has every name that the earlier one has, and its clock and next number are no lower
pub record Grows (F G : Farm) : Type 0 where
  pub types : (k : List ℕ) → IsSome (type_of F k) → IsSome (type_of G k)
  pub boards : (k : List ℕ) → IsSome (board_of F k) → IsSome (board_of G k)
  pub jobs : (n : ℕ) (p : JobRow) → job_of F n ≡ Some p → StillJob G n p
  pub reservations : (n : ℕ) → n < F.next → IsNone (res_of F n) → IsNone (res_of G n)
  pub clock : F.clock ≤ G.clock
  pub next : F.next ≤ G.next

IfSome-weaker : {A : Type 0} (P Q : A → Type 0) → ((a : A) → P a → Q a) → (o : Option A) → IfSome o P → IfSome o Q
IfSome-weaker P Q weaker None h = tt
IfSome-weaker P Q weaker (Some a) h = weaker a h

IsSomeAnd-weaker : {A : Type 0} (P Q : A → Type 0) → ((a : A) → P a → Q a) → (o : Option A) → IsSomeAnd o P → IsSomeAnd o Q
IsSomeAnd-weaker P Q weaker None h = h
IsSomeAnd-weaker P Q weaker (Some a) h = weaker a h

module _ (F G : Farm) (grows : Grows F G) where
  -- what a row says of the others stays
  pub IsBoardRow-grows : (r : BoardRow) → IsBoardRow F r → IsBoardRow G r
  IsBoardRow-grows r is = record {
    words = is.words;
    kind = grows.types r.kind is.kind;
    counts = is.counts;
    checked = omega (arith, is.checked, grows.clock);
    retired = is.retired;
  }

  Follows-grows : (r : JobRow) → Follows F r → Follows G r
  Follows-grows r f =
      let there = grows.jobs (r.number - 1) f.previous f.there in
      record {
        previous = there.0;
        there = there.1;
        group = there.2 ∙ f.group;
        owner = there.3 ∙ f.owner;
        priority = there.4 ∙ f.priority;
        ordinary = there.5 ∙ f.ordinary;
        body = f.body;
      }

  pub IsJobRow-grows : (r : JobRow) → IsJobRow F r → IsJobRow G r
  IsJobRow-grows r is = record {
    number = (is.number.0, omega (arith, is.number.1, grows.next));
    apart = grows.reservations r.number is.number.1 is.apart;
    words = is.words;
    kind = IsSomeAnd-weaker _ _ grows.types r.want.kind is.kind;
    board = IfSome-weaker _ _ grows.boards r.board is.board;
    outcome = is.outcome;
    waits = is.waits;
    holds = is.holds;
    group = is.group;
    follows = λ later. Follows-grows r (is.follows later);
    check = is.check;
  }

  pub IsResRow-grows : (r : ResRow) → IsResRow F r → IsResRow G r
  IsResRow-grows r is = record {
    number = (is.number.0, omega (arith, is.number.1, grows.next));
    owner = is.owner;
    priority = is.priority;
    want = is.want;
    kind = is.kind;
    deadline = omega (arith, is.deadline, grows.clock);
    board = IfSome-weaker _ _ grows.boards r.board is.board;
    waits = is.waits;
    holds = is.holds;
  }

-- ---- an edited farm

-- the rows that say something of others
abbrev pub AreRows : Farm → List BoardRow → List JobRow → List ResRow → Type 0
AreRows G boards jobs reservations = AllByRecursion (IsBoardRow G) boards × AllByRecursion (IsJobRow G) jobs × AllByRecursion (IsResRow G) reservations

pub rows_grow : (F G : Farm) → IsSteady F → Grows F G → AreRows G F.boards F.jobs F.reservations
rows_grow F G steady grows = (
  AllByRecursion-weaker (IsBoardRow-grows F G grows) F.boards steady.boards,
  AllByRecursion-weaker (IsJobRow-grows F G grows) F.jobs steady.jobs,
  AllByRecursion-weaker (IsResRow-grows F G grows) F.reservations steady.reservations,
)

-- the farm that an edit leaves: that it grows, and all that makes it steady but those rows
pub record Edit (F : Farm) : Type 0 where
  pub farm : Farm
  pub more_types : (k : List ℕ) → IsSome (type_of F k) → IsSome (type_of farm k)
  pub more_boards : (k : List ℕ) → IsSome (board_of F k) → IsSome (board_of farm k)
  pub still_jobs : (n : ℕ) (p : JobRow) → job_of F n ≡ Some p → StillJob farm n p
  pub still_none : (n : ℕ) → n < F.next → IsNone (res_of F n) → IsNone (res_of farm n)
  pub later : F.clock ≤ farm.clock
  pub higher : F.next ≤ farm.next
  pub types_sorted : IsStrictlySortedBy type_cmp farm.types
  pub boards_sorted : IsStrictlySortedBy board_cmp farm.boards
  pub jobs_sorted : IsStrictlySortedBy job_cmp farm.jobs
  pub reservations_sorted : IsStrictlySortedBy res_cmp farm.reservations
  pub kept_sorted : IsStrictlySortedBy kept_cmp farm.kept
  pub types : AllByRecursion IsTypeRow farm.types
  pub kept : AllByRecursion IsKeptRow farm.kept
  pub few : AllByRecursion IsWithin (sizes_of farm)
  pub few_of_kind : (kind : List ℕ) → length (filter (λ b. bytes_eq b.kind kind) farm.boards) ≤ most_boards_of_type
  pub clock : farm.clock ≤ last_moment
  pub count : farm.count ≤ most_commands
  pub next : (1 ≤ farm.next) × (farm.next ≤ numbers_end)

-- the edit that changes nothing: another edit is this one with what it changes
abbrev pub no_edit : (F : Farm) → IsSteady F → Edit F
no_edit F steady = record {
  farm = F;
  more_types = λ k there. there;
  more_boards = λ k there. there;
  still_jobs = λ n p is. (p, is, refl, refl, refl, refl);
  still_none = λ n low none. none;
  later = omega arith;
  higher = omega arith;
  types_sorted = steady.types_sorted;
  boards_sorted = steady.boards_sorted;
  jobs_sorted = steady.jobs_sorted;
  reservations_sorted = steady.reservations_sorted;
  kept_sorted = steady.kept_sorted;
  types = steady.types;
  kept = steady.kept;
  few = steady.few;
  few_of_kind = steady.few_of_kind;
  clock = steady.clock;
  count = steady.count;
  next = steady.next;
}

pub IsSteady-edited : {F : Farm} (e : Edit F) → (Grows F e.farm → AreRows e.farm e.farm.boards e.farm.jobs e.farm.reservations) → IsSteady e.farm
IsSteady-edited e right =
    let rows = right (record {
      types = e.more_types;
      boards = e.more_boards;
      jobs = e.still_jobs;
      reservations = e.still_none;
      clock = e.later;
      next = e.higher;
    }) in
    record {
      types_sorted = e.types_sorted;
      boards_sorted = e.boards_sorted;
      jobs_sorted = e.jobs_sorted;
      reservations_sorted = e.reservations_sorted;
      kept_sorted = e.kept_sorted;
      types = e.types;
      boards = rows.0;
      jobs = rows.1;
      reservations = rows.2;
      kept = e.kept;
      few = e.few;
      few_of_kind = e.few_of_kind;
      clock = e.clock;
      count = e.count;
      next = e.next;
    }
