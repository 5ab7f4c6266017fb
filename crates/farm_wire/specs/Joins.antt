-- What was taken first and what was taken then, joined.
use Rattle.std.specs.Prelude.{◌≡◌, ℕ, ◌+◌, List, ◌++◌, length}
use Rattle.std.proofs.Common.{ap, ◌∙◌, arith, append_assoc, length-append}

pub join_items : (a b c x y : List ℕ) → b ≡ a ++ x → c ≡ b ++ y → c ≡ a ++ (x ++ y)
join_items a b c x y first second = second ∙ ap (λ l. l ++ y) first ∙ append_assoc a x y

pub join_counts : (a b c : ℕ) (x y : List ℕ) → b ≡ a + length x → c ≡ b + length y
    → c ≡ a + length (x ++ y)
join_counts a b c x y first second = omega (arith, first, second, length-append x y)
