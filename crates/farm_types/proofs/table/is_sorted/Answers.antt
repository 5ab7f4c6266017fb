use Rattle.std.proofs.Common.{rules}
use Rattle.std.specs.Ordering.{is_lt}
use Rattle.std.proofs.lemmas.Fn.{always_returns_same}
use Rattle.farm_types.proofs.Searched.{sorted_from_answer}
use Rattle.farm_types.proofs.table.is_sorted.Goals as goal

pub returns : goal.returns
returns g c =
    sorted_from_answer g.R.Keyed.cmp g.met.R.Keyed.total c.args.rows.now c.is_sorted_by.result
    (c.is_sorted_by.ensures.cases (λ x y. is_lt (g.R.Keyed.cmp x y)) (always_returns_same _ _ _ (λ a r f' called. search rules)))
