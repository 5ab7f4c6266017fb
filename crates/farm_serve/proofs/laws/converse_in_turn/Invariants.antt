use Rattle.std.proofs.Common.{◌≤◌, take}
use Rattle.farm_serve.proofs.Names.{doubt, state}
use Rattle.farm_serve.specs.Names.{AnswersAll, desk}
use Rattle.farm_serve.proofs.ConversationLemmas.{GainsWithin}
use Rattle.farm_serve.proofs.laws.converse_in_turn.Given as goal

-- the conversations at the moments so far were answered, and the writer has the room that these left
abbrev pub invariant-loop-now : goal.invariant-loop-now
invariant-loop-now g l = record {
  clean : doubt (state g.S.Store l.fn.keeper.conn).is_clean ≤ doubt (state g.S.Store l.keeper.conn).is_clean;
  answers : AnswersAll g.S.Store
      (desk l.fn.keeper (g.R.Read.remaining l.fn.reader) (g.W.Write.contents l.fn.writer))
      (desk l.keeper (g.R.Read.remaining l.reader) (g.W.Write.contents l.writer)) (take l.now-index l.moments);
  gains : GainsWithin (g.W.Output.has_room l.fn.writer) (g.W.Output.has_room l.writer) (g.W.Write.contents l.fn.writer) (g.W.Write.contents l.writer);
}
