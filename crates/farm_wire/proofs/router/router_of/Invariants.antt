-- The routes that are in and those that are left give all the rows.
use Rattle.std.proofs.Common.{◌≡◌, map, drop, []}
use Rattle.farm_wire.specs.Routes.{with_routes}
use Rattle.farm_wire.proofs.router.router_of.Given as goal

abbrev pub invariant-loop-path : goal.invariant-loop-path
invariant-loop-path l = with_routes (map (λ x. (x.0.now, x.1)) (drop l.path-index l.paths)) l.router ≡ with_routes (map (λ x. (x.0.now, x.1)) l.paths) []
