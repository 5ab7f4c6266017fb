use Rattle.std.proofs.Common.{◌≡◌, true, false, refl, sym, subst}
use Rattle.farm_types.specs.Names.{IsSound}
use Rattle.farm_pick.specs.Queued.{idle_boards}
use Rattle.farm_core.specs.Came.{Seen, seen}
use Rattle.farm_core.specs.Plain.{plain_farm}
use Rattle.farm_core.specs.Serving.{IsMissed, wants_of}
use Rattle.farm_core.proofs.Skipping.{known_on, own_missed}
use Rattle.farm_core.proofs.OneTried.{met_serves, passed_serves, still_same}
use Rattle.farm_core.proofs.Steps.{lead_on_join}
use Rattle.farm_core.proofs.tables.Tables.try_claim.Goals as goal

pub returns-then-served-clause-serves : goal.returns-then-served-clause-serves
returns-then-served-clause-serves c =
    met_serves (seen c.args.self.now) c.args.kind c.args.number c.args.boards c.requires.sound c.requires.waits (seen c.serve_claim.new.self) c.in_ok-served.served c.in_ok-served.ensures.tries c.if-served.true

pub returns-then-served-clause-miss : goal.returns-then-served-clause-miss
returns-then-served-clause-miss c =
    let it = c.requires.waits in
    known_on (seen c.args.self.now) (seen c.serve_claim.new.self) it.0 true c.requires.sound it.1
    (met_serves (seen c.args.self.now) c.args.kind c.args.number c.args.boards c.requires.sound it (seen c.serve_claim.new.self) c.in_ok-served.served c.in_ok-served.ensures.tries c.if-served.true it.0 it.2 it.3 it.1)
    c.args.misses.now.items c.requires.miss

pub pass_over-requires-clause-sound : goal.pass_over-requires-clause-sound
pass_over-requires-clause-sound c =
    subst (λ (s : Seen). IsSound s.farm)
    (sym (still_same (seen c.args.self.now) c.args.kind c.args.number c.args.boards c.requires.sound c.requires.waits (seen c.serve_claim.new.self) c.in_ok-served.served c.in_ok-served.ensures.tries c.if-served.false))
    c.requires.sound

pub pass_over-requires-clause-free : goal.pass_over-requires-clause-free
pass_over-requires-clause-free c =
    subst (λ (s : Seen). s.queues.boards ≡ idle_boards s.farm)
    (sym (still_same (seen c.args.self.now) c.args.kind c.args.number c.args.boards c.requires.sound c.requires.waits (seen c.serve_claim.new.self) c.in_ok-served.served c.in_ok-served.ensures.tries c.if-served.false))
    c.requires.free

pub returns-clause-serves : goal.returns-clause-serves
returns-clause-serves c =
    passed_serves (seen c.args.self.now) c.args.kind c.args.number c.args.boards c.requires.sound c.requires.waits (seen c.serve_claim.new.self) c.in_ok-served.served c.in_ok-served.ensures.tries c.if-served.false
    (seen c.pass_over.new.self) c.in_ok-pass_over.ensures.serves

pub returns-clause-miss : goal.returns-clause-miss
returns-clause-miss c =
    let D = seen c.args.self.now in
    let it = c.requires.waits in
    let serves = passed_serves D c.args.kind c.args.number c.args.boards c.requires.sound it (seen c.serve_claim.new.self) c.in_ok-served.served c.in_ok-served.ensures.tries c.if-served.false
    (seen c.pass_over.new.self) c.in_ok-pass_over.ensures.serves it.0 it.2 it.3 it.1 in
    let same = still_same D c.args.kind c.args.number c.args.boards c.requires.sound it (seen c.serve_claim.new.self) c.in_ok-served.served c.in_ok-served.ensures.tries c.if-served.false in
    c.in_ok-note_miss.ensures (plain_farm c.pass_over.new.self) (known_on D (seen c.pass_over.new.self) it.0 false c.requires.sound it.1 serves c.args.misses.now.items c.requires.miss)
    (subst (λ (s : Seen). IsMissed (plain_farm c.pass_over.new.self) (wants_of s.farm c.args.kind c.args.number)) (sym same)
    (own_missed D (seen c.pass_over.new.self) it.0 false c.requires.sound it.1 serves refl c.args.kind c.args.number it.2 it.3))

pub returns-clause-logs : goal.returns-clause-logs
returns-clause-logs c = lead_on_join _ _ _ c.in_ok-served.ensures.logs c.in_ok-pass_over.ensures.logs
