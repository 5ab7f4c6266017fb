use Rattle.std.proofs.Common.{◌≡◌, ◌∙◌, ◌∷◌, ◌++◌, [], map, ap, Ok, rules, string_bytes}
use Rattle.std.proofs.lemmas.List.{map-append}
use Rattle.std.proofs.lemmas.Map.Iter.{rest_more}
use Rattle.std.specs.Map.Iter.{deref_pair}
use Rattle.toml.specs.View.{view, members_view}
use Rattle.farm_types.specs.Names.{◌>>=◌}
use Rattle.farm_jobfile.specs.Lab.{entry_of, entry_in}
use Rattle.farm_jobfile.proofs.TurnLemmas.{one_turn}
use Rattle.farm_jobfile.proofs.lab.members_of.Goals as goal

pub loop-name-preserved : goal.loop-name-preserved
loop-name-preserved c =
    let left : c.loop-name.name-iterator ≡ (c.in-Some.name.now, c.in-Some.value.now) ∷ c.next.new.self = rest_more deref_pair _ _ _ (c.in-Some.name, c.in-Some.value) c.in-Some.is c.next.ensures.steps in
    let read : entry_in c.args.section c.args.now (string_bytes c.in-Some.name.now) (view c.in-Some.value.now) ≡ Ok (entry_of c.in_ok-member_of.field-0) = search (rules, c.as_str.ensures, c.in_ok-member_of.ensures) in
    let calls : map entry_of c.push.new.self.items ≡ map entry_of c.loop-name.calls.items ++ entry_of c.in_ok-member_of.field-0 ∷ [] = ap (map entry_of) c.in_ok-push.ensures.items ∙ map-append entry_of c.loop-name.calls.items (c.in_ok-member_of.field-0 ∷ []) in
    let before = rw left at c.loop-name.invariant in
    rw calls (one_turn _ (string_bytes c.in-Some.name.now) (view c.in-Some.value.now) (members_view c.next.new.self) (entry_of c.in_ok-member_of.field-0 ∷ []) (map entry_of c.loop-name.calls.items) _ (ap (λ r. r >>= λ entry. Ok (entry ∷ [])) read) before)
