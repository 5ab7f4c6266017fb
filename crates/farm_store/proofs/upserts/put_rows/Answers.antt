use Rattle.std.proofs.Common.{◌<◌, ◌≡◌, ℕ, List, [], ◌∷◌, take, get_or, length, map, sym, ap, subst, ◌∙◌, arith, rules}
use Rattle.farm_store.proofs.Names.{Edition, get_or-map, IsInside, length-map, put_at, state, take_all, untagged}
use Rattle.sqlite_trees.proofs.ListLemmas.{all-get_or}
use Rattle.farm_store.specs.declared.stored.Stored.{Ghosts}
use Rattle.farm_store.specs.declared.stored.Tagged.{Tagged}
use Rattle.farm_store.proofs.GoingOn.{goes_on_then, was_clean}
use Rattle.farm_store.proofs.PutAt.{put_more}
use Rattle.farm_store.proofs.upserts.put_rows.Goals as goal

-- the row alone stands at the same place among the rows alone
row_there : {R : Type 0} {g : Ghosts R} (rows : List (Tagged R g)) (at : ℕ) (t : Tagged R g) → t ≡ get_or rows at t → at < length rows
    → (get_or (untagged rows) at t.row.now ≡ t.row.now) × (at < length (untagged rows))
row_there rows at t is low =
    (get_or-map (λ t. t.row.now) rows at t t.row.now low ∙ ap (λ t. t.row.now) (sym is), subst (λ n. at < n) (sym (length-map rows (λ t. t.row.now))) low)

pub loop-tagged-init : goal.loop-tagged-init
loop-tagged-init g c = record {
  goes_on = search rules;
  put = λ clean T begun. subst (IsInside (state g.S.Store c.args.tx.now.conn.now)) (sym ((g.met.R.Stored.is_place Edition.Second).same T)) begun;
}

pub put-requires-clause-small : goal.put-requires-clause-small
put-requires-clause-small g c =
    let there = row_there c.args.rows.now c.loop-tagged.tagged-index c.tagged-item.result c.tagged-item.is (omega arith) in
    subst g.R.Stored.IsSmall there.0 (all-get_or g.R.Stored.IsSmall (untagged c.args.rows.now) c.loop-tagged.tagged-index c.tagged-item.result.row.now c.requires.small there.1)

pub loop-tagged-preserved : goal.loop-tagged-preserved
loop-tagged-preserved g c =
    let p = g.R.Stored.place Edition.Second in
    let columns = g.R.Stored.columns Edition.Second in
    let rows = untagged c.args.rows.now in
    let at = c.loop-tagged.tagged-index in
    let row = c.tagged-item.result.row.now in
    let there = row_there c.args.rows.now at c.tagged-item.result c.tagged-item.is (omega arith) in
    record {
      put = λ clean T begun.
          let early = was_clean c.put.ensures.goes_on clean in
          let before = put_at p T (map columns (take at rows)) in
          let after = c.in_ok-put.ensures.put clean before (c.loop-tagged.invariant.put early T begun) in
          let more = put_more p (g.met.R.Stored.is_place Edition.Second) columns T rows at row there.1 ∙ ap (λ row. put_at p before (columns row ∷ [])) there.0 in
          subst (IsInside (state g.S.Store c.put.new.tx.conn.now)) (sym more) after;
      goes_on = goes_on_then c.loop-tagged.invariant.goes_on c.put.ensures.goes_on;
    }

pub returns-clause-put : goal.returns-clause-put
returns-clause-put g c clean T begun =
    let rows = untagged c.args.rows.now in
    let whole = take_all c.loop-tagged.tagged-index rows (omega (arith, length-map c.args.rows.now (λ t. t.row.now))) in
    subst (λ rows. IsInside (state g.S.Store c.loop-tagged.tx.conn.now) (put_at (g.R.Stored.place Edition.Second) T (map (g.R.Stored.columns Edition.Second) rows))) whole (c.loop-tagged.invariant.put clean T begun)
