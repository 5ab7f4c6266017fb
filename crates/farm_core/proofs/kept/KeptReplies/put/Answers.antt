use Rattle.std.proofs.Common.{◌≡◌, ◌∙◌, ◌+◌, ◌++◌, ◌∷◌, [], cond, Option, Some, None, ap, sym, refl, subst, arith}
use Rattle.std.specs.Prelude.{option_map}
use Rattle.farm_core.proofs.Names.{find, kept_total, KeptRow, Tabled}
use Rattle.std.specs.Option.{is_some}
use Rattle.std.proofs.lemmas.Grind.{common_steps}
use Rattle.farm_types.specs.Names.{IsSmallKept, kept_cmp, put}
use Rattle.farm_table.proofs.Steps.{leads_put}
use Rattle.farm_core.specs.Replies.{IsKept, kept_reply, kept_rows}
use Rattle.farm_core.proofs.Replies.{kept_next, kept_put}
use Rattle.farm_core.proofs.Replies.Packing.{is_asked}
use Rattle.farm_core.proofs.kept.KeptReplies.put.Goals as goal

mapped : {X Y : Type 0} (f : X → Y) (o : Option X) → is_some (option_map f o) ≡ is_some o
mapped f None = refl
mapped f (Some x) = refl

pub invariant_of-self-2 : goal.invariant_of-self-2
invariant_of-self-2 c =
    let row : KeptRow = c.args.row in
    let p = c.self.inside.packed in
    let es = c.self.inside.others.entries in
    let many : c.in_ok-len.len ≡ c.self.inside.len + cond (is_some c.find.result) 0 1 = grind (arith, common_steps) in
    let known : is_some c.find.result ≡ is_some (find (is_asked row) (kept_rows p es)) = (ap is_some c.find.ensures ∙ mapped kept_reply (find (is_asked row) c.args.self.now.rows)) ∙ (λ i. is_some (find (is_asked row) (sym c.self.view_is i).rows)) in
    subst (λ log. IsKept p c.insert.new.rows.entries c.in_ok-len.len log) (sym (c.push_reserved.ensures.items ∙ ap (λ l. l ++ row ∷ []) c.in_ok-reserve.ensures.items))
    (kept_next p es c.insert.new.rows.entries row c.self.inside.log.items c.self.inside.len c.in_ok-len.len c.self.invariant c.in_ok-insert.ensures.rows c.requires
    (many ∙ ap (λ v. c.self.inside.len + cond v 0 1) known) c.in_ok-insert.ensures.joined)

pub returns-clause-rows : goal.returns-clause-rows
returns-clause-rows c =
    kept_put c.self.inside.packed c.self.inside.others.entries c.insert.new.rows.entries c.args.row c.self.invariant.others c.in_ok-insert.ensures.rows
    ∙ ap (λ (t : Tabled KeptRow). put kept_cmp t.rows c.args.row) c.self.view_is

pub returns-clause-leads : goal.returns-clause-leads
returns-clause-leads c =
    let rows = kept_put c.self.inside.packed c.self.inside.others.entries c.insert.new.rows.entries c.args.row c.self.invariant.others c.in_ok-insert.ensures.rows in
    leads_put kept_cmp kept_total IsSmallKept _ c.self.inside.log.items c.args.row c.args.row refl _ _ (sym c.self.view_is)
    (λ i. record { rows = rows i; log = (c.push_reserved.ensures.items ∙ ap (λ l. l ++ c.args.row ∷ []) c.in_ok-reserve.ensures.items) i })
