use Rattle.std.proofs.Common.{arith}
use Rattle.std.proofs.lemmas.Result.{IfOk-weaker}
use Rattle.sqlite.specs.Files.{file_state}
use Rattle.sqlite.specs.State.{HasCleanDisk}
use Rattle.farm_serve.specs.declared.fault.DeskFault.{DeskFault}
use Rattle.farm_desk.proofs.FileLemmas.{both_err, both_match, denies_farm, finds_farm, found_in}
use Rattle.farm_desk.proofs.at_hand.find_on.Goals as goal

pub returns-clause-found : goal.returns-clause-found
returns-clause-found g c =
    IfOk-weaker c.find_in.result _ _ (λ k made image shows. finds_farm image c.args.conn k made shows) c.find_in.ensures.found

pub returns-clause-denied : goal.returns-clause-denied
returns-clause-denied g c =
    both_err c.find_in.result _ _ _ c.find_in.ensures.only c.find_in.ensures.denied (λ u only denied clean image shows.
    let early : HasCleanDisk (file_state c.args.conn) = omega (arith, only.clean, clean) in
    denies_farm image c.args.conn (DeskFault.Keep u.fault) early (denied clean) shows)

pub returns-clause-version : goal.returns-clause-version
returns-clause-version g c =
    both_match c.find_in.result _ _ _ _ _ _ c.find_in.ensures.found c.find_in.ensures.only c.find_in.ensures.version
    (λ k made looks clean image shows.
    let early : HasCleanDisk (file_state c.args.conn) = omega (arith, made.clean, clean) in
    (_, found_in image c.args.conn shows early, looks clean))
    (λ u only looks clean image shows.
    let early : HasCleanDisk (file_state c.args.conn) = omega (arith, only.clean, clean) in
    (_, found_in image c.args.conn shows early, looks clean))
