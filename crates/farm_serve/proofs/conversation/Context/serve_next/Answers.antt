-- The client that was accepted was conversed with, and closed, and its conversation's end passed on.
use Rattle.farm_serve.proofs.ServingLemmas.{conversation_serves}
use Rattle.farm_serve.proofs.ConnectionLemmas.{connections_one, converses_once}
use Rattle.farm_serve.proofs.conversation.Context.serve_next.Goals as goal

pub returns-clause-serves : goal.returns-clause-serves
returns-clause-serves g c =
    conversation_serves g.S.Store c.args.keeper.now c.converse-ended.new.keeper _ _ _ _ _ _ _ c.converse-ended.result.due c.pass_on.result
    c.requires c.pass_on.ensures c.converse-ended.ensures.writes (λ read. (c.converse-ended.ensures.unread read).0.unchanged)

pub returns-clause-connections : goal.returns-clause-connections
returns-clause-connections g c =
    connections_one g.S.Store g.K.Reader.Input.never_fails (g.K.Clients.client_list c.args.clients.now) (g.K.Clients.client_list c.next.new.self) (g.K.Clients.client_list c.close.new.self)
    c.args.keeper.now c.converse-ended.new.keeper _ _ _ _ _ _ c.requires c.in-Some.ensures.heard c.in-Some.ensures.arrives c.close.ensures
    (converses_once g.S.Store _ _ _ _ _ _ c.converse-ended.result.due c.converse-ended.ensures.writes
    (λ read. (c.converse-ended.ensures.unread read).0) (λ read. (c.converse-ended.ensures.unread read).2) c.converse-ended.ensures.received)
