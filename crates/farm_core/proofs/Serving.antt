-- What the program does for one claim is what the machine does.
use Rattle.std.proofs.Common.{[], ◌≡◌, ℕ, zero, suc, ◌+◌, ◌<◌, ◌==◌, List, ◌∷◌, length, map, drop, get_or, Bool, true, false, cond, Option, Some, refl}
use Rattle.std.proofs.Common.{sym, ap, ◌∙◌, arith, add-one}
use Rattle.farm_core.proofs.Names.{AllByRecursion, BoardRow, ClaimKind, filter_all, fold, IsFitJob, JobRow, JobState, option_map_or, Want, zip}
use Rattle.std.specs.List.{filter}
use Rattle.std.specs.Option.{option_map}
use Rattle.farm_types.specs.Names.{Claimed, Farm, give, give_group, give_member, give_res, is_free, IsSmall, least, members, pass_over, serve, Served}
use Rattle.farm_types.specs.Names.{shown_claim}
use Rattle.farm_sound.proofs.Where.{AllByRecursion-map}
use Rattle.farm_core.specs.Came.{Seen}
use Rattle.farm_core.specs.Serving.{Serves, Tries, assign_first, assign_named}

-- ---- the numbers of members, and the names of boards

abbrev pub names_of : List BoardRow → List (List ℕ)
names_of bs = map (λ (b : BoardRow). b.name) bs

abbrev pub numbers_of : List JobRow → List ℕ
numbers_of ms = map (λ (m : JobRow). m.number) ms

abbrev pub wants_of : List JobRow → List Want
wants_of ms = map (λ (m : JobRow). m.want) ms

-- one more pair of a number and a name
by_suc : (ns : List ℕ) (ms : List (List ℕ)) (k n : ℕ) (m : List ℕ) → k < length ns → k < length ms → get_or ns k 0 ≡ n → m ≡ get_or ms k m
    → drop k (zip ns ms) ≡ (n, m) ∷ drop (suc k) (zip ns ms)
by_suc [] ms k n m low less at is = absurd (omega arith)
by_suc (x ∷ ns) [] k n m low less at is = absurd (omega arith)
by_suc (x ∷ ns) (y ∷ ms) zero n m low less at is = λ i. (at i, sym is i) ∷ zip ns ms
by_suc (x ∷ ns) (y ∷ ms) (suc k) n m low less at is = by_suc ns ms k n m (omega arith) (omega arith) at is

pub pairs_more : (ns : List ℕ) (ms : List (List ℕ)) (k n : ℕ) (m : List ℕ) → k < length ns → k < length ms → get_or ns k 0 ≡ n → m ≡ get_or ms k m
    → drop k (zip ns ms) ≡ (n, m) ∷ drop (k + 1) (zip ns ms)
pairs_more ns ms k n m low less at is = rw (add-one k) (by_suc ns ms k n m low less at is)

no_pairs : (k : ℕ) (ps : List (ℕ × List ℕ)) → ps ≡ [] → drop k ps ≡ []
no_pairs zero ps none = none
no_pairs (suc k) [] none = refl
no_pairs (suc k) (p ∷ ps) none = cc

pub pairs_end : (ns : List ℕ) (ms : List (List ℕ)) (k : ℕ) → (k < length ns → k < length ms → ⊥) → drop k (zip ns ms) ≡ []
pairs_end [] ms k high = no_pairs k [] refl
pairs_end (n ∷ ns) [] k high = no_pairs k [] refl
pairs_end (n ∷ ns) (m ∷ ms) zero high = absurd (high (omega arith) (omega arith))
pairs_end (n ∷ ns) (m ∷ ms) (suc k) high = pairs_end ns ms k (λ a b. high (omega arith) (omega arith))

pub small_at : (ns : List ℕ) (k : ℕ) → AllByRecursion IsSmall ns → k < length ns → IsSmall (get_or ns k 0)
small_at [] k all low = absurd (omega arith)
small_at (n ∷ ns) zero all low = all.0
small_at (n ∷ ns) (suc k) all low = small_at ns k all.1 (omega arith)

-- members are given boards by their numbers and names
pub assigned_named : (state : JobState) (ms : List JobRow) (bs : List BoardRow) (F : Farm) → fold (give_member state) F (zip ms bs) ≡ fold (assign_named state) F (zip (numbers_of ms) (names_of bs))
assigned_named state [] bs F = refl
assigned_named state (m ∷ ms) [] F = refl
assigned_named state (m ∷ ms) (b ∷ bs) F = assigned_named state ms bs (give_member state F (m, b))

-- the numbers of a group's members among some rows
pub numbers_small : (rows : List JobRow) (group : ℕ) (numbers : List ℕ) → numbers ≡ numbers_of (filter (λ (j : JobRow). j.group == group) rows) → AllByRecursion IsFitJob rows → AllByRecursion IsSmall numbers
numbers_small rows group numbers is fit =
    rw is (AllByRecursion-map (λ m. IsFitJob m × ((m.group == group) ≡ true)) IsSmall (λ (m : JobRow). m.number) (λ m two. two.0.small.number) (filter (λ (j : JobRow). j.group == group) rows)
    (filter_all IsFitJob (λ (j : JobRow). j.group == group) rows fit))

-- ---- a claim is served, or not

module _ (F : Farm) (c : Claimed) (n : ℕ) (wants : List Want) (asks : c.wants ≡ wants) where
  abbrev start : Served
  start = record { farm = F; claims = n }

  abbrev found : (o : Option (List BoardRow)) → Served
  found o = option_map_or (λ bs. record { farm = give F c bs F.clock; claims = n + 1 }) o (record { farm = pass_over F c; claims = n })

  serves : serve F.clock start c ≡ found (least F.boards (is_free F.types) wants)
  serves = ap (λ w. found (least F.boards (is_free F.types) w)) asks

  pub is_served : (G : Farm) (names : List (List ℕ)) → Some names ≡ option_map names_of (least F.boards (is_free F.types) wants)
      → ((bs : List BoardRow) → names ≡ names_of bs → give F c bs F.clock ≡ G) → serve F.clock (record { farm = F; claims = n }) c ≡ record { farm = G; claims = n + 1 }
  is_served G names picked gives = grind arith

-- a reservation has the first board
first_given : (F : Farm) (number : ℕ) (bs : List BoardRow) → give_res F number bs F.clock ≡ assign_first F number (names_of bs)
first_given F number [] = refl
first_given F number (b ∷ bs) = refl

-- the farm in which a claim, by its kind and its number, is assigned the boards of some names
abbrev pub assigned : Farm → ClaimKind → ℕ → List (List ℕ) → Farm
assigned F ClaimKind.Group number names = fold (assign_named JobState.Scheduled) F (zip (numbers_of (members F number)) names)
assigned F ClaimKind.Reservation number names = assign_first F number names

module _ (F : Farm) (c : Claimed) where
  gives : (v : Bool) (bs : List BoardRow) → cond v (give_res F c.number bs F.clock) (give_group F c.number bs) ≡ assigned F (cond v ClaimKind.Reservation ClaimKind.Group) c.number (names_of bs)
  gives true bs = first_given F c.number bs
  gives false bs = assigned_named JobState.Scheduled (members F c.number) bs F

  pub claim_served : (G : Farm) (kind : ClaimKind) (number n : ℕ) (names : List (List ℕ)) (wants : List Want) → (shown_claim c).kind ≡ kind → c.number ≡ number → c.wants ≡ wants
      → Some names ≡ option_map names_of (least F.boards (is_free F.types) wants) → G ≡ assigned F kind number names → serve F.clock (record { farm = F; claims = n }) c ≡ record { farm = G; claims = n + 1 }
  claim_served G kind number n names wants is same asks picked made =
      is_served F c n wants asks G names picked
      (λ bs called. gives c.reservation bs ∙ (λ i. assigned F (is i) (same i) (sym called i)) ∙ sym made)

-- the kind that is shown
pub shown_group : (v : Bool) → cond v ClaimKind.Reservation ClaimKind.Group ≡ ClaimKind.Group → v ≡ false
shown_group true is = cc
shown_group false is = refl

-- ---- what came of a claim

pub met : {D E : Seen} {c : Claimed} → Serves D c true E → Tries D c true E
met serves = record { met = λ _. serves; misses = λ is. cc }
