-- One conversation more, answered or not.
use Rattle.std.proofs.Common.{◌<◌, length, arith, refl, ap, Err}
use Rattle.farm_serve.specs.Names.{desk}
use Rattle.farm_serve.proofs.ConversationLemmas.{fault_in, gains_more, one_more, stops_at}
use Rattle.farm_serve.proofs.ConverseLemmas.{no_room_within}
use Rattle.farm_serve.proofs.laws.converse_in_turn.Goals as goal

pub returns-in-Err-clause-fault : goal.returns-in-Err-clause-fault
returns-in-Err-clause-fault g c =
    let low : c.loop-now.now-index < length c.args.moments.now = omega arith in
    let ended = c.in-Err.ensures in
    stops_at g.S.Store (desk c.args.keeper.now (g.R.Read.remaining c.args.reader.now) (g.W.Write.contents c.args.writer.now))
    (desk c.loop-now.keeper (g.R.Read.remaining c.loop-now.reader) (g.W.Write.contents c.loop-now.writer))
    (desk c.converse.new.keeper (g.R.Read.remaining c.converse.new.reader) (g.W.Write.contents c.converse.new.writer))
    c.args.moments.now c.loop-now.now-index _ _ (g.W.Output.has_room c.args.writer.now) c.in-Err.fault low refl c.loop-now.invariant.answers
    (record { answered = ended.answered; unwritten = ended.unwritten; unread = ended.unread })
    (record {
      received = ended.received;
      answered = λ lost. no_room_within _ _ (g.W.Output.has_room c.loop-now.writer) c.loop-now.invariant.gains.room (ended.taken lost);
    })

pub returns-in-Err-clause-received : goal.returns-in-Err-clause-received
returns-in-Err-clause-received g c sure e = c.in-Err.ensures.received sure (ap (λ fault. Err fault) (ap fault_in e))

pub loop-now-preserved : goal.loop-now-preserved
loop-now-preserved g c =
    let low : c.loop-now.now-index < length c.args.moments.now = omega arith in
    let ended = c.in_default.ensures in
    record {
      clean = omega (arith, c.loop-now.invariant.clean, c.converse.ensures.clean);
      answers = one_more g.S.Store (desk c.args.keeper.now (g.R.Read.remaining c.args.reader.now) (g.W.Write.contents c.args.writer.now))
          (desk c.loop-now.keeper (g.R.Read.remaining c.loop-now.reader) (g.W.Write.contents c.loop-now.writer))
          (desk c.converse.new.keeper (g.R.Read.remaining c.converse.new.reader) (g.W.Write.contents c.converse.new.writer))
          c.args.moments.now c.loop-now.now-index _ c.in_default.field-0 low refl c.loop-now.invariant.answers
          (record { answered = ended.answered; unwritten = ended.unwritten; unread = ended.unread });
      gains = gains_more _ _ _ _ _ _ _ c.loop-now.invariant.gains (ended.answered tt).written ended.room;
    }
