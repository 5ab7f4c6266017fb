-- What is small, and what proper calls say of it.
use Rattle.std.proofs.Common.{◌≡◌, ◌==◌, ℕ, length, Option, List, true, IsTrue, subst, arith}
use Rattle.farm_core.proofs.Names.{both, Call, Check, Cmd, nat_tests, Want}
use Rattle.farm_types.specs.Names.{every_of, is_frequency, is_proper_cmd, is_word, IsSmall, longest_name}

-- a proper call's frequency
pub is_frequency_of : (call : Call) (name : List ℕ) (check : Check) → call.cmd ≡ Cmd.AddType name check → IsTrue (is_frequency check)
unfolding is_proper_cmd
is_frequency_of call name check is =
    let proper = (both _ _ call.proper).1 in
    let P : Cmd → Type 0 = λ cmd. is_proper_cmd cmd ≡ true in
    (both (is_word longest_name name) (is_frequency check) (subst P is proper)).1

-- a frequency is small
pub small_frequency : (check : Check) → IsTrue (is_frequency check) → IsSmall (every_of check)
small_frequency Check.Never is = omega arith
small_frequency (Check.Hours n) is = grind (arith, nat_tests)
small_frequency (Check.Jobs n) is = grind (arith, nat_tests)

-- a proper call's roles
pub roles_of : (call : Call) (priority : ℕ) (wants : List Want) (roles : List (Option (List ℕ))) (body : List ℕ) → call.cmd ≡ Cmd.Submit priority wants roles body → length roles ≡ length wants
unfolding is_proper_cmd
roles_of call priority wants roles body is =
    let proper = (both _ _ call.proper).1 in
    let P : Cmd → Type 0 = λ cmd. is_proper_cmd cmd ≡ true in
    let named = (both _ _ (both _ _ (subst P is proper)).0).0 in
    let long : (length roles == length wants) ≡ true = (both _ _ (both _ _ named).0).1 in
    grind (arith, nat_tests)
