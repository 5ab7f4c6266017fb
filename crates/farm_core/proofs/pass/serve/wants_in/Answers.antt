use Rattle.std.proofs.Common.{◌≡◌, ◌∙◌, ◌==◌, ◌+◌, ◌<◌, ◌++◌, ◌∷◌, ℕ, List, [], map, take, length, get_or, slice_set, true, cond, ap, sym, refl, arith, Bor}
use Rattle.std.specs.List.{filter}
use Rattle.std.proofs.lemmas.Grind.{common_steps}
use Rattle.std.proofs.lemmas.List.{length-set, map-append, take_more, take_more_set}
use Rattle.std.proofs.lemmas.List.Elements.{filter-append}
use Rattle.farm_core.proofs.Names.{itself, JobRow, Want}
use Rattle.farm_core.proofs.Serving.{wants_of}
use Rattle.farm_core.proofs.pass.serve.wants_in.Goals as goal
use Rattle.farm_core.proofs.pass.serve.wants_in.Goals.{then-row-group, else-row-group}

-- one more member
wants_more : (xs : List (Bor Want)) (count i : ℕ) (rows : List JobRow) (group : ℕ) (r : JobRow) (x : Bor Want) → count < length xs → i < length rows
    → r ≡ get_or rows i r → r.group ≡ group → x.now ≡ r.want
    → map (λ (w : Bor Want). w.now) (take count xs) ≡ wants_of (filter (λ (j : JobRow). j.group == group) (take i rows))
    → map (λ (w : Bor Want). w.now) (take (count + 1) (slice_set xs count x)) ≡ wants_of (filter (λ (j : JobRow). j.group == group) (take (i + 1) rows))
wants_more xs count i rows group r x low less item own want so =
    ap (map (λ (w : Bor Want). w.now)) (take_more_set xs count x low) ∙ map-append (λ (w : Bor Want). w.now) (take count xs) (x ∷ [])
    ∙ (λ k. so k ++ (want k ∷ []))
    ∙ sym (ap wants_of rows_more ∙ map-append (λ (m : JobRow). m.want) (filter (λ (j : JobRow). j.group == group) (take i rows)) (r ∷ []))
  where
    test : (r.group == group) ≡ true
    test = ap (λ n. n == group) own ∙ itself group

    rows_more : filter (λ (j : JobRow). j.group == group) (take (i + 1) rows) ≡ filter (λ (j : JobRow). j.group == group) (take i rows) ++ (r ∷ [])
    rows_more =
        ap (filter (λ (j : JobRow). j.group == group)) (take_more rows i r less ∙ ap (λ y. take i rows ++ (y ∷ [])) (sym item))
        ∙ filter-append (λ (j : JobRow). j.group == group) (take i rows) (r ∷ [])
        ∙ ap (λ v. filter (λ (j : JobRow). j.group == group) (take i rows) ++ cond v (r ∷ []) []) test

pub loop-row-preserved : goal.loop-row-preserved
loop-row-preserved c =
    elim c.if-row-group.branch [
      | then-row-group w ↦ rw (w.wants-is, w.count-is) (record {
        long = length-set c.loop-row.wants c.loop-row.count _ ∙ c.loop-row.invariant.long;
        few = omega (arith, c.loop-row.invariant.few);
        wants = wants_more c.loop-row.wants c.loop-row.count c.loop-row.row-index c.args.rows.now c.args.group c.row-item.result _ (omega (arith, c.loop-row.invariant.long, c.loop-row.invariant.few, c.requires)) (omega arith) c.row-item.is
            w.if-row-group.true refl c.loop-row.invariant.wants;
      })
      | else-row-group w ↦ rw (w.wants-is, w.count-is) (record {
        long = c.loop-row.invariant.long;
        few = omega (arith, c.loop-row.invariant.few);
        wants = grind (arith, common_steps, c.loop-row.invariant.wants, w.if-row-group.false, c.row-item.is);
      })
    ]
