use Rattle.std.proofs.Common.{rules, ◌≡◌, sym, Ok, Err, slice_set}
use Rattle.std.proofs.lemmas.Fn.{always_returns_same}
use Rattle.farm_types.specs.Table.{put}
use Rattle.farm_types.proofs.Put.{put_searched, put_sorted}
use Rattle.farm_types.proofs.table.upsert.Goals as goal
use Rattle.farm_types.proofs.table.upsert.Given.{Over}

-- at the row's place
set_there : (g : Over) (c : goal.After-drop-index_mut g) → slice_set c.args.rows.now.items c.in-Ok.at c.args.row ≡ put g.R.Keyed.cmp c.args.rows.now.items c.args.row
set_there g c =
    rw (← c.deref.ensures.value)
    (sym (put_searched g.R.Keyed.cmp g.met.R.Keyed.total c.args.row c.deref.result.now (rw c.deref.ensures.value c.requires) (Ok c.in-Ok.at) c.in-Ok.ensures.bound
    (c.in-Ok.ensures.position (λ r. g.R.Keyed.cmp r c.args.row) (always_returns_same _ _ _ (λ a r f' called. search rules)))))

pub returns-in-Ok-clause-rows : goal.returns-in-Ok-clause-rows
returns-in-Ok-clause-rows g c = set_there g c

pub returns-in-Ok-clause-sorted : goal.returns-in-Ok-clause-sorted
returns-in-Ok-clause-sorted g c = rw (set_there g c) (put_sorted g.R.Keyed.cmp g.met.R.Keyed.total c.args.row _ c.requires)

-- in the gap
inserted : (g : Over) (c : goal.In_ok-insert-in-Err g) → c.insert.new.self.items ≡ put g.R.Keyed.cmp c.args.rows.now.items c.args.row
inserted g c =
    rw c.in_ok-insert-in-Err.ensures.items
    (rw (← c.deref.ensures.value)
    (sym (put_searched g.R.Keyed.cmp g.met.R.Keyed.total c.args.row c.deref.result.now (rw c.deref.ensures.value c.requires) (Err c.in-Err.at) c.in-Err.ensures.bound
    (c.in-Err.ensures.position (λ r. g.R.Keyed.cmp r c.args.row) (always_returns_same _ _ _ (λ a r f' called. search rules))))))

pub returns-in_ok-insert-in-Err-clause-rows : goal.returns-in_ok-insert-in-Err-clause-rows
returns-in_ok-insert-in-Err-clause-rows g c = inserted g c

pub returns-in_ok-insert-in-Err-clause-sorted : goal.returns-in_ok-insert-in-Err-clause-sorted
returns-in_ok-insert-in-Err-clause-sorted g c = rw (inserted g c) (put_sorted g.R.Keyed.cmp g.met.R.Keyed.total c.args.row _ c.requires)
