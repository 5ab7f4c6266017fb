-- The router lent is that of all the paths.
use Rattle.std.proofs.Common.{sym}
use Rattle.std.proofs.Math.Logic.{∥∥₁_elim}
use Rattle.std.proofs.Props.{props}
use Rattle.farm_wire.proofs.PathLemmas.{route_found, route_missing}
use Rattle.farm_wire.proofs.ask.Routes.route.Goals as goal

pub returns-in-Ok : goal.returns-in-Ok
returns-in-Ok c =
    ∥∥₁_elim c.args.self.now.table (hlevel props) (λ is.
    sym (route_found c.args.self.now.router c.args.path.now _ is c.in-Ok.ensures.found))

pub returns-in-Err : goal.returns-in-Err
returns-in-Err c =
    ∥∥₁_elim c.args.self.now.table (hlevel props) (λ is.
    sym (route_missing c.args.self.now.router c.args.path.now is c.in-Err.ensures.missing))
