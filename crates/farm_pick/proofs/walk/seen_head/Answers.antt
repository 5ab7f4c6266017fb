use Rattle.std.proofs.Common.{Some, None}
use Rattle.farm_pick.proofs.Headed.{head_of_cursor}
use Rattle.farm_pick.proofs.walk.seen_head.Goals as goal

pub returns-in_err-cursor : goal.returns-in_err-cursor
returns-in_err-cursor c =
    rw c.from_residual.ensures (head_of_cursor c.args.index.now.kinds.items c.args.index.now.claims.entries c.args.index.now.idle.items c.requires.well c.args.all c.args.last c.requires.queue
    None c.in_err-cursor.ensures)

pub returns : goal.returns
returns c =
    head_of_cursor c.args.index.now.kinds.items c.args.index.now.claims.entries c.args.index.now.idle.items c.requires.well c.args.all c.args.last c.requires.queue
    (Some c.in_ok-cursor.cursor) c.in_ok-cursor.ensures
