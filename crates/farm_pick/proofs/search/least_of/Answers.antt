use Rattle.std.proofs.Common.{arith, ◌<◌, ◌∙◌, length, add-one, None}
use Rattle.farm_pick.proofs.Names.{length-set}
use Rattle.farm_pick.specs.Choice.{passes}
use Rattle.farm_pick.proofs.Answering.{candidate_by, lent, one_more, shortlists_all, all_ascend, none_serves, is_found, is_least}
use Rattle.farm_pick.proofs.search.least_of.Goals as goal

pub loop-i-preserved : goal.loop-i-preserved
loop-i-preserved c =
    let below : c.loop-i.i < length c.args.wants.now = omega arith in
    let room : c.loop-i.i < length c.loop-i.lists = omega (arith, c.loop-i.invariant.four) in
    record {
      four = length-set c.loop-i.lists c.loop-i.i c.shortlist-places.result ∙ c.loop-i.invariant.four;
      short = rw add-one (one_more (candidate_by lent c.args.boards.now (passes c.args.types.now c.args.free)) (length c.args.wants.now) c.loop-i.i c.args.wants.now c.loop-i.lists c.index-wants-i.result _ c.shortlist-places.result below room c.index-wants-i.is c.shortlist-places.ensures (omega arith) c.loop-i.invariant.short);
    }

pub choose-requires-clause-ascend : goal.choose-requires-clause-ascend
choose-requires-clause-ascend c =
    let serves = candidate_by lent c.args.boards.now (passes c.args.types.now c.args.free) in
    all_ascend serves (length c.args.wants.now) c.args.wants.now _ (shortlists_all serves c.loop-i.i c.args.wants.now c.loop-i.lists (omega arith) c.loop-i.invariant.short)

pub returns : goal.returns
returns c =
    let serves = candidate_by lent c.args.boards.now (passes c.args.types.now c.args.free) in
    let short = shortlists_all serves c.loop-i.i c.args.wants.now c.loop-i.lists (omega arith) c.loop-i.invariant.short in
    let is = is_found lent c.args.boards.now (passes c.args.types.now c.args.free) c.requires.ordered c.args.wants.now _ short c.choose.result
    (rw c.new-5.ensures at c.choose.ensures.found) (rw c.new-5.ensures at c.choose.ensures.none) in
    record { least = is.least; len = is.len; within = is.within; different = is.different }

pub returns-then-len-eq0-clause-least : goal.returns-then-len-eq0-clause-least
returns-then-len-eq0-clause-least c =
    let below : c.loop-i.i < length c.args.wants.now = omega arith in
    is_least lent c.args.boards.now (passes c.args.types.now c.args.free) c.requires.ordered c.args.wants.now None tt
    (none_serves (candidate_by lent c.args.boards.now (passes c.args.types.now c.args.free)) _ c.args.wants.now c.loop-i.i c.index-wants-i.result c.shortlist-places.result c.shortlist-places.ensures (omega arith) (omega arith) below c.index-wants-i.is)
