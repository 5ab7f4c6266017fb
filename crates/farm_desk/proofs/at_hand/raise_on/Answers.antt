use Rattle.std.proofs.Common.{arith}
use Rattle.std.proofs.lemmas.Result.{IfOk-weaker}
use Rattle.sqlite.specs.Files.{file_state}
use Rattle.sqlite.specs.State.{HasCleanDisk}
use Rattle.farm_serve.specs.declared.fault.DeskFault.{DeskFault}
use Rattle.farm_desk.proofs.FileLemmas.{both_err, both_match, found_in, denies_upgrade, raises_farm}
use Rattle.farm_desk.proofs.at_hand.raise_on.Goals as goal

pub returns-clause-raised : goal.returns-clause-raised
returns-clause-raised g c =
    IfOk-weaker c.raise_in.result _ _ (λ new made image shows. raises_farm image c.args.conn new made shows) c.raise_in.ensures.raised

pub returns-clause-denied : goal.returns-clause-denied
returns-clause-denied g c =
    both_err c.raise_in.result _ _ _ c.raise_in.ensures.clean c.raise_in.ensures.denied (λ u quiet denied clean image shows.
    let early : HasCleanDisk (file_state c.args.conn) = omega (arith, quiet, clean) in
    denies_upgrade image c.args.conn (DeskFault.Keep u.fault) early (denied clean) shows)

pub returns-clause-version : goal.returns-clause-version
returns-clause-version g c =
    both_match c.raise_in.result _ _ _ _ _ _ c.raise_in.ensures.raised c.raise_in.ensures.clean c.raise_in.ensures.version
    (λ new made looks clean image shows.
    let early : HasCleanDisk (file_state c.args.conn) = omega (arith, made.clean, clean) in
    (_, found_in image c.args.conn shows early, looks clean))
    (λ u quiet looks clean image shows.
    let early : HasCleanDisk (file_state c.args.conn) = omega (arith, quiet, clean) in
    (_, found_in image c.args.conn shows early, looks clean))
