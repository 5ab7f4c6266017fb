use Rattle.std.proofs.Common.{sym}
use Rattle.farm_wire.proofs.PathLemmas.{path_of_text, path_of_bytes}
use Rattle.farm_wire.proofs.ask.path_of.Goals as goal

pub returns-in-Ok : goal.returns-in-Ok
returns-in-Ok c =
    let found = path_of_text c.args.target.now c.in-Ok.ensures.cases.1 in
    let same = c.in-Ok.ensures.cases.0 in
    let cut = rw same at c.before_query.ensures in
    cc

pub returns-in-Err : goal.returns-in-Err
returns-in-Err c = sym (path_of_bytes c.args.target.now c.in-Err.ensures.cases.0)
