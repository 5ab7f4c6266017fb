use Rattle.std.proofs.Common.{subst}
use Rattle.sqlite.specs.Held.{Held}
use Rattle.farm_desk.specs.InFiles.{IsCarried}
use Rattle.farm_desk.proofs.carry.carry.Goals as goal

pub returns-in-Ok-clause-again : goal.returns-in-Ok-clause-again
returns-in-Ok-clause-again g c = record {
  conn = c.in_ok-conn.conn;
  carried = subst (λ (h : Held _). IsCarried h c.in_ok-conn.conn) c.into_connection.ensures.conn c.in_ok-conn.ensures.carried;
  made = c.in-Ok.ensures.found;
}
