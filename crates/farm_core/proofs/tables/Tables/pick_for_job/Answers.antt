use Rattle.std.proofs.Common.{◌≡◌, ◌∙◌, ◌<◌, IsSomeAnd, get_or, length, slice_get, option_and_then, ap, sym, subst, arith}
use Rattle.farm_core.proofs.Names.{JobRow, recursion_from_All}
use Rattle.farm_types.specs.Names.{Farm, first_free, is_free}
use Rattle.farm_core.specs.Plain.{plain_farm}
use Rattle.farm_core.proofs.OneWant.{least_first}
use Rattle.farm_core.proofs.Places.{first_at, first_none}
use Rattle.farm_core.proofs.tables.Tables.pick_for_job.Goals as goal

pub returns-in_err-picked-clause-first : goal.returns-in_err-picked-clause-first
returns-in_err-picked-clause-first c = λ j has.
    let F : Farm = plain_farm c.args.self.now in
    let same : c.in_ok-row.row.now.want ≡ j.want = subst (λ o. IsSomeAnd o (λ (r : JobRow). r.want ≡ j.want)) (sym c.in_ok-row.ensures.found) has.1 in
    ap (option_and_then (slice_get F.boards)) c.from_residual-in_err-picked.ensures
    ∙ first_none (first_free F c.in_ok-row.row.now.want) (c.in_err-picked.ensures.least ∙ least_first F.boards (is_free F.types) c.in_ok-row.row.now.want)
    ∙ ap (first_free F) same

pub returns-clause-first : goal.returns-clause-first
returns-clause-first c = λ j has.
    let F : Farm = plain_farm c.args.self.now in
    let same : c.in_ok-row.row.now.want ≡ j.want = subst (λ o. IsSomeAnd o (λ (r : JobRow). r.want ≡ j.want)) (sym c.in_ok-row.ensures.found) has.1 in
    let places = c.in_ok-picked.picked in
    ap (λ ps. slice_get F.boards (get_or ps 0 0)) c.places.ensures
    ∙ first_at F.boards places (first_free F c.in_ok-row.row.now.want) (recursion_from_All (λ at. at < length F.boards) places c.in_ok-picked.ensures.within) (omega (arith, c.in_ok-picked.ensures.len))
    (c.in_ok-picked.ensures.least ∙ least_first F.boards (is_free F.types) c.in_ok-row.row.now.want)
    ∙ ap (first_free F) same
