-- The paths: where each leads, as `matchit` finds it, and which methods it has.
use Rattle.std.specs.Prelude.{◌≡◌, ℕ, ◌<◌, Bool, false, List, [], ◌∷◌, ◌++◌, Option, Some, None, ok_or, Result, Ok, Err, codes, if◌then◌else◌, ◌==◌}
use Rattle.std.specs.List.{before_first}
use Rattle.std.specs.Option.{option_map}
use Rattle.std.specs.Str.{is_utf8, bytes_eq}
use Rattle.matchit.specs.Rows.{RowsOf}
use Rattle.matchit.specs.Route.{Scan, parse_route}
use Rattle.matchit.specs.Router.{RouteOf, route_from}
use Rattle.matchit.specs.Order.{placed}
use Rattle.matchit.specs.Seek.{first, has_slash}
use Rattle.matchit.specs.declared.error.InsertError.{InsertError}
use Rattle.farm_types.specs.Names.{bad_request, no_route}
use Rattle.farm_wire.specs.declared.router.Route.{Route}
use Rattle.farm_wire.specs.declared.answers.Allowed.{Allowed}
use Rattle.farm_wire.specs.declared.router.CommandKind.{CommandKind}
use Rattle.farm_wire.specs.declared.router.Endpoint.{Endpoint}
use Rattle.farm_wire.specs.declared.router.ViewKind.{ViewKind}

-- each path with its route
abbrev pub route_table : List (List ℕ × Route)
route_table =
    (codes "/types", Route.GetPost ViewKind.Types CommandKind.AddType)
    ∷ (codes "/boards", Route.GetPost ViewKind.Boards CommandKind.AddBoard)
    ∷ (codes "/boards/{name}/tags", Route.Post CommandKind.SetTags)
    ∷ (codes "/boards/{name}/health", Route.Post CommandKind.SetHealth)
    ∷ (codes "/jobs", Route.Post CommandKind.Submit)
    ∷ (codes "/jobs/{n}", Route.Get ViewKind.Job)
    ∷ (codes "/jobs/{n}/cancel", Route.Post CommandKind.Cancel)
    ∷ (codes "/jobs/{n}/start", Route.Post CommandKind.Start)
    ∷ (codes "/jobs/{n}/finish", Route.Post CommandKind.Finish)
    ∷ (codes "/reservations", Route.GetPost ViewKind.Reservations CommandKind.Reserve)
    ∷ (codes "/reservations/{n}/acquire", Route.Post CommandKind.Acquire)
    ∷ (codes "/reservations/{n}/release", Route.Post CommandKind.Release)
    ∷ (codes "/reservations/{n}/refresh", Route.Post CommandKind.Refresh)
    ∷ (codes "/reservations/{n}/cancel", Route.Post CommandKind.CancelReservation)
    ∷ (codes "/pass", Route.Post CommandKind.Pass)
    ∷ (codes "/queue", Route.Get ViewKind.Queue)
    ∷ (codes "/status", Route.Get ViewKind.Status)
    ∷ []

-- the methods of its path
abbrev pub allowed_at : Route → Allowed
allowed_at (Route.Get view) = Allowed.Get
allowed_at (Route.Post command) = Allowed.Post
allowed_at (Route.GetPost view command) = Allowed.GetPost

-- the router's rows with one more route
abbrev pub with_route : Result Scan InsertError → Route → RowsOf (RouteOf Route)
    → RowsOf (RouteOf Route)
with_route (Ok s) route old = placed (s.pattern, route_from s route) old
with_route (Err e) route old = old

-- the rows with all these routes
abbrev pub with_routes : List (List ℕ × Route) → RowsOf (RouteOf Route) → RowsOf (RouteOf Route)
with_routes [] old = old
with_routes (route ∷ routes) old = with_routes routes (with_route (parse_route route.0) route.1 old)

-- the rows of a router of all the paths
unfoldable pub rows : RowsOf (RouteOf Route)
rows = with_routes route_table []

-- where a path leads
abbrev pub route_at : List ℕ → Option Route
route_at path = option_map (λ route. route.value) (first rows path)

-- the path of a target: what stands before the first `?`, where the target is a text
unfoldable pub path_in : List ℕ → Result (List ℕ) ℕ
path_in target = if is_utf8 target then Ok (before_first (λ b. b == 63) target) else Err bad_request

-- where a path leads, or that it leads nowhere
unfoldable pub route_in : List ℕ → Result Route ℕ
route_in path = ok_or (route_at path) no_route

abbrev pub is_get : List ℕ → Bool
is_get method = bytes_eq method (codes "GET")

abbrev pub is_post : List ℕ → Bool
is_post method = bytes_eq method (codes "POST")

-- what a method leads to, if the path has it
abbrev pub endpoint_at : Route → List ℕ → Option Endpoint
endpoint_at (Route.Get view) method = if is_get method then Some (Endpoint.View view) else None
endpoint_at (Route.Post command) method = if is_post method then Some (Endpoint.Command command) else None
endpoint_at (Route.GetPost view command) method =
    if is_get method then Some (Endpoint.View view) else (if is_post method then Some (Endpoint.Command command) else None)

-- the value of the field `allow`
abbrev pub allow_text : Allowed → List ℕ
allow_text Allowed.Get = codes "GET"
allow_text Allowed.Post = codes "POST"
allow_text Allowed.GetPost = codes "GET, POST"

-- whatever stands for the parameter, one byte at least and no slash, the path between front and
-- back leads there
abbrev pub LeadsTo : List ℕ → List ℕ → Route → Type 0
LeadsTo front back route = (b : ℕ) (s : List ℕ) → b < 256 → has_slash (b ∷ s) ≡ false
    → route_at (front ++ ((b ∷ s) ++ back)) ≡ Some route
