-- Where each path with a parameter leads, whatever the parameter.
use Rattle.std.proofs.Common.{◌≡◌, ℕ, ◌<◌, List, [], ◌∷◌, ◌++◌, true, false, refl, ap, ◌∙◌, arith, codes, nat_eq}
use Rattle.std.specs.Prelude.{Some, option_map}
use Rattle.matchit.specs.Rows.{RowsOf}
use Rattle.matchit.specs.Router.{RouteOf}
use Rattle.matchit.specs.Seek.{step, own, has_slash, cuts, longest_suffix, with_suffix}
use Rattle.matchit.specs.Route.{scan}
use Rattle.std.proofs.lemmas.Bool.Decides.{nat_tests}
use Rattle.farm_wire.specs.Routes.{rows, route_at}
use Rattle.farm_wire.specs.declared.router.Route.{Route}
use Rattle.farm_wire.specs.declared.router.ViewKind.{ViewKind}
use Rattle.farm_wire.proofs.RouteLemmas.{steps, seek_word, seek_end, last_param, middle_param, whole_segment, cut_segment, no_cut, slash_cut}

-- behind the front only a parameter goes on, and what follows it begins with a slash
pub record IsFork (front : List ℕ) (b : ℕ) (s : List ℕ) : Type 0 where
  pub no_word : step b (steps front rows) ≡ []
  pub slash : longest_suffix ((b ∷ s) ++ (47 ∷ [])) (step 256 (steps front rows)) ≡ 47 ∷ []

-- the routes that go on behind a parameter and a slash
abbrev pub onward : List ℕ → RowsOf (RouteOf Route)
onward front = with_suffix (47 ∷ []) (step 256 (steps front rows))

pub between_route : (front back : List ℕ) (route : RouteOf Route) (b : ℕ) (s : List ℕ) → has_slash (b ∷ s) ≡ false → IsFork front b s → own (steps (47 ∷ back) (onward front)) ≡ Some route
    → route_at (front ++ ((b ∷ s) ++ (47 ∷ back))) ≡ Some route.value
between_route front back route b s none fork there =
    ap (option_map (λ route. route.value)) (seek_word front rows ((b ∷ s) ++ (47 ∷ back)) route
    (middle_param (steps front rows) b s back route fork.no_word
    (ap (λ l. longest_suffix l (step 256 (steps front rows))) (cut_segment (b ∷ s) back none) ∙ fork.slash) none
    (seek_end (47 ∷ back) (onward front) route there)))

pub board_fork : (b : ℕ) (s : List ℕ) → b < 256 → IsFork (codes "/boards/") b s
unfolding rows scan
board_fork b s small =
    let other : nat_eq 256 b ≡ false = grind (arith, nat_tests) in
    let cut : cuts ((b ∷ s) ++ (47 ∷ [])) (47 ∷ []) ≡ true = slash_cut b s in
    record { no_word = rw other refl; slash = rw cut refl }

pub job_fork : (b : ℕ) (s : List ℕ) → b < 256 → IsFork (codes "/jobs/") b s
unfolding rows scan
job_fork b s small =
    let other : nat_eq 256 b ≡ false = grind (arith, nat_tests) in
    let cut : cuts ((b ∷ s) ++ (47 ∷ [])) (47 ∷ []) ≡ true = slash_cut b s in
    record { no_word = rw other refl; slash = rw cut refl }

pub reservation_fork : (b : ℕ) (s : List ℕ) → b < 256 → IsFork (codes "/reservations/") b s
unfolding rows scan
reservation_fork b s small =
    let other : nat_eq 256 b ≡ false = grind (arith, nat_tests) in
    let cut : cuts ((b ∷ s) ++ (47 ∷ [])) (47 ∷ []) ≡ true = slash_cut b s in
    record { no_word = rw other refl; slash = rw cut refl }

-- any segment behind `/jobs/` leads to the job
pub job_route : (b : ℕ) (s : List ℕ) → b < 256 → has_slash (b ∷ s) ≡ false → route_at (codes "/jobs/" ++ (b ∷ s)) ≡ Some (Route.Get ViewKind.Job)
unfolding rows scan
job_route b s small none =
    let other : nat_eq 256 b ≡ false = grind (arith, nat_tests) in
    let cut : cuts (b ∷ s) (47 ∷ []) ≡ false = no_cut (b ∷ s) none in
    ap (option_map (λ route. route.value)) (seek_word (codes "/jobs/") rows (b ∷ s) _
    (last_param (steps (codes "/jobs/") rows) b s _ (rw other refl)
    (ap (λ l. longest_suffix l (step 256 (steps (codes "/jobs/") rows))) (whole_segment (b ∷ s) none) ∙ rw cut refl) none refl))
