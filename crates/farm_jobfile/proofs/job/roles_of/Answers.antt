use Rattle.std.proofs.Common.{◌≡◌, ◌∷◌, Ok, rules, string_bytes}
use Rattle.std.proofs.lemmas.Map.Iter.{rest_more}
use Rattle.std.specs.Map.Iter.{deref_pair}
use Rattle.toml.specs.View.{view, members_view}
use Rattle.farm_jobfile.specs.Job.{role_in}
use Rattle.farm_jobfile.proofs.TurnLemmas.{one_turn}
use Rattle.farm_jobfile.proofs.job.roles_of.Goals as goal

pub loop-name-preserved : goal.loop-name-preserved
loop-name-preserved c =
    let left : c.loop-name.name-iterator ≡ (c.in-Some.name.now, c.in-Some.value.now) ∷ c.next.new.self = rest_more deref_pair _ _ _ (c.in-Some.name, c.in-Some.value) c.in-Some.is c.next.ensures.steps in
    let read : role_in (string_bytes c.in-Some.name.now) (view c.in-Some.value.now) ≡ Ok c.in_ok-here.here.items = search (rules, c.as_str.ensures, c.in_ok-here.ensures) in
    let before = rw left at c.loop-name.invariant in
    rw c.in_ok-append.ensures.items (one_turn role_in (string_bytes c.in-Some.name.now) (view c.in-Some.value.now) (members_view c.next.new.self) c.in_ok-here.here.items c.loop-name.members.items _ read before)
