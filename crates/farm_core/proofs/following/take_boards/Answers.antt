use Rattle.std.proofs.Common.{◌∙◌, ap, sym, take, arith}
use Rattle.farm_pick.specs.Queued.{QueueLists}
use Rattle.farm_core.specs.Following.{without_board, without_boards}
use Rattle.farm_core.specs.Serving.{names_at}
use Rattle.farm_core.proofs.Places.{names_more, without_more}
use Rattle.farm_core.proofs.following.take_boards.Goals as goal

pub loop-at-preserved : goal.loop-at-preserved
loop-at-preserved c =
    let rows = c.args.boards.now in
    let places = c.args.places.now in
    let k = c.loop-at.at-index in
    let b = c.index-boards-at.result in
    let old : QueueLists = c.args.queues.now in
    let more = names_more rows places k b (omega arith) (c.requires k 0 (omega arith)) c.index-boards-at.is in
    c.take_board.ensures
    ∙ (λ i. record c.loop-at.queues { boards = without_board c.loop-at.queues.boards (sym c.index-boards-at.is i).name })
    ∙ (λ i. record (c.loop-at.invariant i) { boards = without_board (c.loop-at.invariant i).boards b.name })
    ∙ (λ i. record old { boards = sym (ap (λ ns. without_boards ns old.boards) more ∙ without_more (names_at rows (take k places)) b.name old.boards) i })
