-- Rows read one after another.
use Rattle.std.proofs.Common.{◌≡◌, ◌≢◌, ℕ, zero, suc, ◌<◌, List, [], ◌∷◌, ◌++◌, map, length, get_or, Result, Ok, Err, OnOk, IfErr, IsErrAnd, sym, ap, subst}
use Rattle.std.proofs.Common.{◌∙◌, arith}
use Rattle.farm_store.proofs.Names.{AllByRecursion, BadStore, HasColumns, IsNoVersionFault, IsWide, map-append, ReadsAll, ReadsRow, Row, StoreFault}
use Rattle.farm_store.specs.Faults.{fault_of_word}
use Rattle.farm_types.specs.declared.fault.WordFault.{WordFault}
use Rattle.farm_types.specs.declared.fault.WordFault.TheVariants.{NoMemory}
use Rattle.farm_store.proofs.ColumnsFrom.{is_spelled, spells_itself}

pub all_at : {X : Type 0} (P : X → Type 0) (xs : List X) (at : ℕ) (d : X) → AllByRecursion P xs → at < length xs → P (get_or xs at d)
all_at P [] at d all low = absurd (omega arith)
all_at P (x ∷ xs) zero d all low = all.0
all_at P (x ∷ xs) (suc at) d all low = all_at P xs at d all.1 (omega arith)

all_more : {X : Type 0} (P : X → Type 0) (xs : List X) (x : X) → AllByRecursion P xs → P x → AllByRecursion P (xs ++ x ∷ [])
all_more P [] x all p = (p, tt)
all_more P (y ∷ xs) x all p = (all.0, all_more P xs x all.1 p)

-- of all, the first, and the one behind them
all_but_last : {X : Type 0} (P : X → Type 0) (xs : List X) (x : X) → AllByRecursion P (xs ++ x ∷ []) → AllByRecursion P xs × P x
all_but_last P [] x all = (tt, all.0)
all_but_last P (y ∷ xs) x all = let more = all_but_last P xs x all.1 in ((all.0, more.0), more.1)

module _ {X : Type 0} (IsGood : X → Type 0) (columns : X → Row) (width : ℕ) where
  -- the rows so far are those of good values, where they are as wide as the table
  abbrev pub SoFar : List Row → List X → Type 0
  SoFar rows xs = AllByRecursion IsGood xs × (AllByRecursion (IsWide width) rows → rows ≡ map columns xs)

  pub one_more : ((x : X) → IsWide width (columns x)) → (rows : List Row) (row : Row) (xs : List X) (x : X) → SoFar rows xs → IsGood x → HasColumns row 0 (columns x) → SoFar (rows ++ row ∷ []) (xs ++ x ∷ [])
  one_more fits rows row xs x sofar good has = (
    all_more IsGood xs x sofar.0 good,
    λ wide. let all = all_but_last (IsWide width) rows row wide in
        let is : row ≡ columns x = is_spelled row (columns x) (all.1 ∙ sym (fits x)) has in
        ap (λ r. rows ++ r ∷ []) is ∙ ap (λ l. l ++ columns x ∷ []) (sofar.1 all.0) ∙ sym (map-append columns xs (x ∷ [])),
  )

  -- so far, and those are all
  pub all_good : (rows all : List Row) (xs : List X) → SoFar rows xs → (rows ≡ all) × AllByRecursion (IsWide width) rows → AllByRecursion IsGood xs × (all ≡ map columns xs)
  all_good rows all xs sofar are = (sofar.0, sym are.0 ∙ sofar.1 are.1)

  none_behind : (rows : List Row) (row : Row) (more : List Row) → ((x : X) → IsGood x → ¬ HasColumns row 0 (columns x)) → (xs : List X) → AllByRecursion IsGood xs → (rows ++ row ∷ []) ++ more ≢ map columns xs
  none_behind [] row more none [] good same = absurd (let e = same in cc)
  none_behind [] row more none (x ∷ xs) good same = none x good.0 (spells_itself row (columns x) (let first : row ≡ columns x = cc in first))
  none_behind (r ∷ rows) row more none [] good same = absurd (let e = same in cc)
  none_behind (r ∷ rows) row more none (x ∷ xs) good same = none_behind rows row more none xs good.1 (let rest : (rows ++ row ∷ []) ++ more ≡ map columns xs = cc in rest)

  -- where one row is of nothing good, so are all
  pub none_good : (rows : List Row) (row : Row) (all more : List Row) → all ≡ (rows ++ row ∷ []) ++ more → ((x : X) → IsGood x → ¬ HasColumns row 0 (columns x)) → (xs : List X) → AllByRecursion IsGood xs → all ≢ map columns xs
  none_good rows row all more is none xs good same = none_behind rows row more none xs good (sym is ∙ same)

pub on_ok : {A E : Type 0} (r : Result A E) (P : Type 0) → P → OnOk r P
on_ok (Ok a) P p = p
on_ok (Err e) P p = tt

pub bad_of_no_version : IsNoVersionFault BadStore
bad_of_no_version = ((λ is. cc), (λ is. cc))

pub if_err : {A : Type 0} (r : Result A StoreFault) (fault : StoreFault) → IsErrAnd r (λ f. f ≡ fault) → IsNoVersionFault fault → IfErr r IsNoVersionFault
if_err (Ok a) fault is none = tt
if_err (Err f) fault is none = subst IsNoVersionFault (sym is) none

-- a row that was refused refuses them all
pub refuses : {A X : Type 0} (r : Result A StoreFault) (items : A → List X) (IsGood : X → Type 0) (columns : X → Row) (rows : List Row) (cause : WordFault) → IsErrAnd r (λ e. e ≡ fault_of_word cause)
    → (cause ≢ NoMemory → (xs : List X) → AllByRecursion IsGood xs → rows ≢ map columns xs) → ReadsAll r items IsGood columns rows
refuses (Ok a) items IsGood columns rows cause is none = absurd is
refuses (Err e) items IsGood columns rows WordFault.NoMemory is none = (((λ same. let x = sym is ∙ same in cc), (λ same. let x = sym is ∙ same in cc)), λ bad. absurd (let x = sym is ∙ bad in cc))
refuses (Err e) items IsGood columns rows (WordFault.Refused refusal) is none = (subst IsNoVersionFault (sym is) bad_of_no_version, λ bad. none (λ same. cc))

-- a column that was refused refuses the row
pub refuses_row : {X : Type 0} (r : Result X WordFault) (IsGood : X → Type 0) (columns : X → Row) (row : Row) (fault : WordFault) → IsErrAnd r (λ e. e ≡ fault)
    → ((x : X) → IsGood x → ¬ HasColumns row 0 (columns x)) → ReadsRow r IsGood columns row
refuses_row (Ok a) IsGood columns row fault is none = absurd is
refuses_row (Err e) IsGood columns row fault is none = λ _. none
