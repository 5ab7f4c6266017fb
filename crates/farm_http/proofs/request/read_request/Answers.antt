-- What is said of any reader says it of one whose bytes are known.
use Rattle.std.proofs.lemmas.Result.{err_from_is_err_and}
use Rattle.farm_http.proofs.Known.{known_fails, known_taken}
use Rattle.farm_http.proofs.TurnLemmas.{leaves_all}
use Rattle.farm_http.proofs.request.read_request.Goals as goal

pub returns-clause-known : goal.returns-clause-known
returns-clause-known g c =
    known_taken _ _ c.fill.new.bytes.items c.in_ok-head.head c.in_ok-head.ensures.taken c.in_ok-head.ensures.request

pub returns-in_err-head-clause-known : goal.returns-in_err-head-clause-known
returns-in_err-head-clause-known g c =
    let p = err_from_is_err_and c.from_residual.result c.from_residual.ensures.1 in
    rw (p.1, p.2) (known_fails _ _ c.in_err-head.field-0.0 c.in_err-head.ensures.fault)

-- ---- the turns: none before there is room, and then those of the bytes

pub returns-in_default-clause-turns : goal.returns-in_default-clause-turns
returns-in_default-clause-turns g c = (_, leaves_all _ _)

pub returns-in_err-head-clause-turns : goal.returns-in_err-head-clause-turns
returns-in_err-head-clause-turns g c =
    let p = err_from_is_err_and c.from_residual.result c.from_residual.ensures.1 in
    let spent = c.in_err-head.ensures.turns in
    (spent.0, rw (p.1, p.2) spent.1)
