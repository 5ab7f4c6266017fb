-- Each call takes one of the turns that are left.
use Rattle.std.proofs.Common.{◌≡◌, ◌≢◌, arith, rules}
use Rattle.std.proofs.KnownBytes.{Keeps-trans}
use Rattle.std.specs.Io.KnownBytes.{Keeps}
use Rattle.std.specs.IoError.{error_kind}
use Rattle.std.specs.declared.io.ErrorKind.TheVariants.{Interrupted}
use Rattle.farm_http.specs.Turns.{TakesTurn, FailsAtTurn}
use Rattle.farm_http.proofs.TurnLemmas.{fails_next, leaves_next}
use Rattle.farm_http.proofs.reading.read_some.Goals.{in-Room, in-Line}
use Rattle.farm_http.proofs.reading.read_some.Goals as goal

pub returns-in-Ok-clause-turns : goal.returns-in-Ok-clause-turns
returns-in-Ok-clause-turns g c =
    let turn : TakesTurn (g.R.Input.turns c.loop-left.reader) (g.R.Input.turns c.match-reach.reader) =
    elim c.match-reach.branch [ in-Room w ↦ search rules | in-Line w ↦ search rules ] in
    leaves_next _ c.loop-left.left _ _ _ (omega arith) c.loop-left.invariant.turns turn

pub loop-left-preserved : goal.loop-left-preserved
loop-left-preserved g c =
    let kind : error_kind c.in-Err.error ≡ Interrupted = search rules in
    let turn : TakesTurn (g.R.Input.turns c.loop-left.reader) (g.R.Input.turns c.match-reach.reader) =
    elim c.match-reach.branch [ in-Room w ↦ search rules | in-Line w ↦ search rules ] in
    let kept : Keeps (g.R.Read.remaining c.loop-left.reader) (g.R.Read.remaining c.match-reach.reader) =
    elim c.match-reach.branch [ in-Room w ↦ search rules | in-Line w ↦ search rules ] in
    let fails : ¬ g.R.Input.never_fails = elim c.match-reach.branch [ in-Room w ↦ search rules | in-Line w ↦ search rules ] in
    record {
      turns = leaves_next _ c.loop-left.left _ _ _ (omega arith) c.loop-left.invariant.turns turn;
      kept = Keeps-trans _ _ _ c.loop-left.invariant.kept kept;
      sure = λ never. absurd (fails never);
    }

pub returns-in-Err-2-clause-turns : goal.returns-in-Err-2-clause-turns
returns-in-Err-2-clause-turns g c =
    let kind : error_kind c.in-Err.error ≢ Interrupted = search rules in
    let failed : FailsAtTurn (g.R.Input.turns c.loop-left.reader) (g.R.Input.turns c.match-reach.reader) =
    elim c.match-reach.branch [ in-Room w ↦ search rules | in-Line w ↦ search rules ] in
    fails_next _ c.loop-left.left _ _ _ (omega arith) c.loop-left.invariant.turns failed
