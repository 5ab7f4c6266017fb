-- A write adds to the front that was written.
use Rattle.std.proofs.Common.{◌≡◌, ◌-◌, ◌≤◌, length, take, drop, arith, rules, refl, Ok, inl, inr}
use Rattle.std.proofs.KnownBytes.{Appends-trans}
use Rattle.std.proofs.Math.Seq.{take-add}
use Rattle.std.proofs.lemmas.List.{take-take, length-take, length-drop}
use Rattle.farm_http.proofs.Room.{room_kept, room_left, takes_all, took}
use Rattle.farm_http.proofs.TurnLemmas.{takes_at_most_next, takes_none}
use Rattle.farm_http.proofs.writing.write_whole.Goals as goal

pub loop-done-init : goal.loop-done-init
loop-done-init g c = record {
  within = omega arith;
  turns = (0, omega arith, takes_none _);
  written = search rules;
  first = λ _. refl;
  sure = λ _. inl refl;
  room = room_kept _ _;
}

pub loop-done-preserved : goal.loop-done-preserved
loop-done-preserved g c =
    let done = c.loop-done.done in
    let count = c.in_ok-done.field-0 in
    let bytes = c.args.bytes.now in
    let size : length (take (length bytes - done) (drop done bytes)) ≡ length bytes - done = simp (length-take, length-drop) (omega arith) in
    let fits : count ≤ length bytes - done = rw size at c.in_ok-done.ensures.within.1 in
    let part = rw (take-take count (length bytes - done) (drop done bytes) fits) at c.in_ok-done.ensures.ok in
    let all = Appends-trans _ _ _ (take done bytes) (take count (drop done bytes)) c.loop-done.invariant.written part in
    record {
      within = omega (arith, fits);
      turns = takes_at_most_next done _ _ _ _ (omega (arith, c.in_ok-done.ensures.within.0)) c.loop-done.invariant.turns c.in_ok-done.ensures.turn;
      written = rw (take-add done count bytes) all;
      first = λ zero. absurd (omega (arith, zero, c.in_ok-done.ensures.within.0));
      sure = λ room.
          let taken = takes_all g.W.Output.has_room c.args.writer.now c.loop-done.writer (length bytes) done _ (Ok count) c.loop-done.invariant.first size c.in_ok-done.ensures.sure (c.loop-done.invariant.sure room) (omega arith) room in
          let whole : count ≡ length bytes = took count (length bytes) (Ok count) refl taken.1 in
          inr (omega (arith, whole, taken.0));
      room = room_left (g.W.Output.has_room c.args.writer.now) (g.W.Output.has_room c.loop-done.writer) (g.W.Output.has_room c.write_some.new.writer) _ _ _ (take done bytes) (take count (drop done bytes)) c.loop-done.invariant.written c.loop-done.invariant.room part c.in_ok-done.ensures.room;
    }
