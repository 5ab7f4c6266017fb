-- The words of conversations and imports in one place, for proofs, contracts and the crates above.
pub use Rattle.farm_serve.specs.Answers.{Answers, bytes_in, Encodes, http_status, IsDenialEncoded, IsEncoded, IsEncodedOne, IsView, out_of_answer}
pub use Rattle.farm_serve.specs.Answers.{out_of_denial, out_of_refusal}
pub use Rattle.farm_serve.specs.Clients.{Accepts, Arrival, Arrives, ClientList, Departs, Departure, HasRoom, IsOver}
pub use Rattle.farm_serve.specs.Connections.{AreOf, AreServedInTurn, Connection, IsConnection, ServesInTurn}
pub use Rattle.farm_serve.specs.Conversations.{ActAsRun, AnsweredActAsRun, AnswersAll, AreAnswered, AsksCalls, call_asked, calls_of, ClosedKeepsPrefix}
pub use Rattle.farm_serve.specs.Conversations.{Conversation, conversation_of, ConverseApart, ConverseInTurn, Converses, ConversesOnce, Desk, desk, DoesAsked}
pub use Rattle.farm_serve.specs.Conversations.{Exchange, IsAnsweredAgain, IsClosing, IsComplete, IsMachineAnswer, IsSentAgain, LeavesBy, LeavesOpen}
pub use Rattle.farm_serve.specs.Conversations.{OpenKeepsDone, StopsAt}
pub use Rattle.farm_serve.specs.DeskLives.{all_connections, AreDeskLives, connections_of, DeskLife, IsDeskLife, IsServedLife}
pub use Rattle.farm_serve.specs.Ends.{CountsLoss, EndsWritten, HasNoRoom, IsAnswered, IsUnread, IsUnwritten, Writes, WritesAnswer}
pub use Rattle.farm_serve.specs.Imports.{DoesCalls, done_by, EndsBy, Imports, ImportsAll, ImportsBy, is_accepted, is_kept, IsCounted, IsImport, IsStopped}
pub use Rattle.farm_serve.specs.Received.{Asks, IsMeant, plain_ask, Receives, ReceivesBadRequest, ReceivesWhole}
pub use Rattle.farm_serve.specs.Response.{Closes, IsCause, IsResponse, IsResponseTo, RunsOutOfMemory, UnchangedOrDone}
pub use Rattle.farm_serve.specs.Scripts.{client_list_of}
pub use Rattle.farm_serve.specs.Serving.{LeavesAfter, PassesOn, Reaches, ServesClients, ServesUntil, ServingCloses}
pub use Rattle.farm_serve.specs.Stops.{Do, GivesCalls, GivesImported, GivesServed}
