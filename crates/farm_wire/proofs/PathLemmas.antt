-- The path of a target that is a text, and of one that isn't; and where a path leads.
use Rattle.std.proofs.Common.{◌≡◌, ℕ, List, Bool, true, false, refl, sym, ap, ◌∙◌, ◌==◌, Ok, Err}
use Rattle.std.specs.Prelude.{IsUtf8, Some, None, ok_or, if◌then◌else◌}
use Rattle.std.specs.List.{before_first}
use Rattle.std.specs.Option.{option_map}
use Rattle.std.specs.Str.{is_utf8}
use Rattle.std.proofs.lemmas.Str.{IsUtf8-from_is_utf8, is_utf8-from_IsUtf8}
use Rattle.matchit.specs.Router.{RouteOf}
use Rattle.matchit.specs.Rows.{RowsOf}
use Rattle.matchit.specs.Seek.{first}
use Rattle.farm_types.specs.Names.{bad_request, no_route}
use Rattle.farm_wire.specs.Routes.{path_in, route_in, rows}
use Rattle.farm_wire.specs.declared.router.Route.{Route}

pub path_of_text : (target : List ℕ) → IsUtf8 target → path_in target ≡ Ok (before_first (λ b. b == 63) target)
unfolding path_in
path_of_text target is =
    ap (λ b. if b then Ok (before_first (λ b. b == 63) target) else Err bad_request) (is_utf8-from_IsUtf8 target is)

pub path_of_bytes : (target : List ℕ) → ¬ (IsUtf8 target) → path_in target ≡ Err bad_request
unfolding path_in
path_of_bytes target is = by (is_utf8 target) refl
  where
    by : (b : Bool) → is_utf8 target ≡ b → (if b then Ok (before_first (λ b. b == 63) target) else Err bad_request) ≡ Err bad_request
    by true e = absurd (is (IsUtf8-from_is_utf8 target e))
    by false e = refl

-- what the router of all the paths found is where the path leads
pub route_found : (router : RowsOf (RouteOf Route)) (path : List ℕ) (route : RouteOf Route) → router ≡ rows → first router path ≡ Some route
    → route_in path ≡ Ok route.value
unfolding route_in
route_found router path route is found =
    ap (λ o. ok_or (option_map (λ route. route.value) o) no_route) (ap (λ r. first r path) (sym is) ∙ found)

pub route_missing : (router : RowsOf (RouteOf Route)) (path : List ℕ) → router ≡ rows → first router path ≡ None
    → route_in path ≡ Err no_route
unfolding route_in
route_missing router path is missing =
    ap (λ o. ok_or (option_map (λ route. route.value) o) no_route) (ap (λ r. first r path) (sym is) ∙ missing)
