-- The answer that was due, whole or in part.
use Rattle.farm_serve.proofs.ConverseLemmas.{written_in_part, written_too_long, written_whole}
use Rattle.farm_serve.proofs.conversation.converse.Goals as goal

pub returns-then-ending-clause-unwritten : goal.returns-then-ending-clause-unwritten
returns-then-ending-clause-unwritten g c lost =
    written_in_part _ _ _ _ _ c.converse-ending.result.due c.converse-ending.ensures.writes (λ read. (c.converse-ending.ensures.unread read).2) c.if-ending.true

pub returns-then-ending-clause-taken : goal.returns-then-ending-clause-taken
returns-then-ending-clause-taken g c lost =
    written_too_long _ _ _ _ _ c.converse-ending.result.due c.converse-ending.ensures.writes (λ read. (c.converse-ending.ensures.unread read).2) c.if-ending.true

pub returns-clause-answered : goal.returns-clause-answered
returns-clause-answered g c = written_whole _ _ _ _ _ c.converse-ending.result.due c.converse-ending.ensures.writes c.if-ending.false
