use Rattle.std.proofs.Common.{◌||◌, rules}
use Rattle.farm_pick.specs.Heads.{queue_open}
use Rattle.farm_pick.proofs.Walking.{cursor_seen, cursor_unseen}
use Rattle.farm_pick.proofs.walk.open_cursor.Goals as goal

pub returns-then-not-is_open : goal.returns-then-not-is_open
returns-then-not-is_open c =
    cursor_unseen c.args.index.now.claims.entries (λ q. c.args.all || queue_open c.args.index.now.idle.items q) c.args.last (search rules)

pub returns : goal.returns
returns c =
    cursor_seen c.args.index.now.claims.entries (λ q. c.args.all || queue_open c.args.index.now.idle.items q) c.args.last c.cursor_after.result
    (search rules) c.cursor_after.ensures
