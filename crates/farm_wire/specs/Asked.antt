-- What a request asks: a call of the farm, or a view.
use Rattle.std.specs.Prelude.{ℕ, List, Option, ok_or, Result, Ok}
use Rattle.farm_types.specs.Names.{◌>>=◌}
use Rattle.farm_types.specs.declared.calls.Cmd.{Cmd}
use Rattle.farm_http.specs.Request.{Request}
use Rattle.farm_wire.specs.Reading.{Denial, other_methods, or_refused}
use Rattle.farm_wire.specs.Routes.{path_in, route_in, allowed_at, endpoint_at}
use Rattle.farm_wire.specs.Sender.{caller_in, key_in}
use Rattle.farm_wire.specs.Parameters.{job_in}
use Rattle.farm_wire.specs.Commands.{command_in}
use Rattle.farm_wire.specs.declared.ask.Ask.{Ask}
use Rattle.farm_wire.specs.declared.ask.View.{View}
use Rattle.farm_wire.specs.declared.router.CommandKind.{CommandKind}
use Rattle.farm_wire.specs.declared.router.Endpoint.{Endpoint}
use Rattle.farm_wire.specs.declared.router.Route.{Route}
use Rattle.farm_wire.specs.declared.router.ViewKind.{ViewKind}

-- a command with its caller, its key and its moment, or one of the views
pub data Asked : Type 0 where
  command : List ℕ → Option (List ℕ) → ℕ → Cmd → Asked
  view : View → Asked

-- the same of what a call returns
abbrev pub shown_ask : Ask → Asked
shown_ask (Ask.Call call) = command call.caller call.key call.now call.cmd
shown_ask (Ask.View shown) = view shown

-- the caller is looked at first, then the key, then the path and the body
unfoldable pub call_in : CommandKind → List ℕ → Request → ℕ → Result Asked ℕ
call_in kind path request now = do
  caller ← caller_in request.fields
  key ← key_in request.fields
  cmd ← command_in kind path request.body
  Ok (command caller key now cmd)

-- the view at a path
unfoldable pub view_in : ViewKind → List ℕ → Result View ℕ
view_in ViewKind.Types path = Ok View.Types
view_in ViewKind.Boards path = Ok View.Boards
view_in ViewKind.Queue path = Ok View.Queue
view_in ViewKind.Reservations path = Ok View.Reservations
view_in ViewKind.Status path = Ok View.Status
view_in ViewKind.Job path = job_in path >>= λ n. Ok (View.Job n)

-- what a request asks of a path whose method leads there
unfoldable pub asked_at : Endpoint → List ℕ → Request → ℕ → Result Asked ℕ
asked_at (Endpoint.View kind) path request now = view_in kind path >>= λ shown. Ok (view shown)
asked_at (Endpoint.Command kind) path request now = call_in kind path request now

-- what the method leads to, where the path has it
unfoldable pub endpoint_in : Route → List ℕ → Result Endpoint Denial
endpoint_in route method = ok_or (endpoint_at route method) (other_methods (allowed_at route))

-- what a request asks at a moment: its path is looked at first, then its method, then the rest
unfoldable pub ask : Request → ℕ → Result Asked Denial
ask request now = do
  path ← or_refused (path_in request.target)
  route ← or_refused (route_in path)
  endpoint ← endpoint_in route request.method
  or_refused (asked_at endpoint path request now)
