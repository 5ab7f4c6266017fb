-- What is known by the front up to a line.
use Rattle.std.proofs.Common.{◌+◌, ◌<◌, length, arith}
use Rattle.farm_http.proofs.FrontLemmas.{open_fewer, before_last, with_last, begins_more, refused_more, too_long}
use Rattle.farm_http.proofs.front.front_of.Goals as goal

pub returns-in-Whole : goal.returns-in-Whole
returns-in-Whole c = λ seen.
    let bytes = c.args.bytes.now in
    let short : c.loop-at.at < length bytes = omega arith in
    begins_more bytes (c.loop-at.at + 1) _ (omega (arith, short)) (rw c.in-Whole.is at c.front_at.ensures.front (before_last bytes c.loop-at.at short (c.loop-at.invariant.open_lines seen)))

pub returns-in-Refused : goal.returns-in-Refused
returns-in-Refused c = λ seen.
    let bytes = c.args.bytes.now in
    let short : c.loop-at.at < length bytes = omega arith in
    refused_more bytes (c.loop-at.at + 1) (rw c.in-Refused.is at c.front_at.ensures.front (before_last bytes c.loop-at.at short (c.loop-at.invariant.open_lines seen)))

pub loop-at-preserved : goal.loop-at-preserved
loop-at-preserved c =
    let bytes = c.args.bytes.now in
    let short : c.loop-at.at < length bytes = omega arith in
    record {
      fields = c.front_at.ensures.fields;
      open_lines = λ seen. with_last bytes c.loop-at.at short (rw c.in-Open.is at c.front_at.ensures.front (before_last bytes c.loop-at.at short (c.loop-at.invariant.open_lines seen)));
    }

pub returns-then-end-eq-LONGEST_HEAD : goal.returns-then-end-eq-LONGEST_HEAD
returns-then-end-eq-LONGEST_HEAD c = λ seen. too_long c.args.bytes.now (omega arith) (open_fewer c.args.bytes.now _ c.loop-at.at (omega arith) (c.loop-at.invariant.open_lines seen))
