-- The queues once a claim was given its boards.
use Rattle.std.proofs.Common.{[], ◌≡◌, ◌∙◌, ◌==◌, ◌||◌, ℕ, List, ◌∷◌, Bool, false, not, Option, Some, refl, ap, arith}
use Rattle.farm_core.proofs.Names.{BoardRow, idle_boards, list_any, nat_tests, option_map_or, Queued, QueueLists, ResRow, Want}
use Rattle.std.specs.List.{filter}
use Rattle.std.specs.Option.{option_map}
use Rattle.farm_types.specs.Names.{Claimed, Farm, is_free, least, pass_over}
use Rattle.farm_core.specs.Following.{without_all, without_boards}
use Rattle.farm_core.specs.Serving.{queues_given}
use Rattle.farm_core.proofs.Serving.{names_of}

module _ (F : Farm) (c : Claimed) (wants : List Want) (asks : c.wants ≡ wants) (lists : QueueLists) where
  abbrev given : Option (List BoardRow) → QueueLists
  given o = option_map_or (λ bs. record {
    claims = filter (λ (x : Queued). not (x.claim.number == c.number)) lists.claims;
    boards = without_boards (names_of bs) lists.boards;
  }) o (record lists { boards = idle_boards (pass_over F c) })

  -- a claim that is met leaves them with its boards
  pub queues_left : (names : List (List ℕ)) → Some names ≡ option_map names_of (least F.boards (is_free F.types) wants)
      → record { claims = filter (λ (x : Queued). not (x.claim.number == c.number)) lists.claims; boards = without_boards names lists.boards } ≡ queues_given F c lists
  queues_left names picked = grind (arith, nat_tests)

-- ---- several boards and claims at once

same_back : (a b : ℕ) → (a == b) ≡ (b == a)
same_back a b = grind (arith, nat_tests)

-- to take one more is to take those that are another's too
pub taken_more : {A : Type 0} (p q r : A → Bool) → ((x : A) → r x ≡ (p x || q x)) → (xs : List A) → filter (λ x. not (q x)) (filter (λ x. not (p x)) xs) ≡ filter (λ x. not (r x)) xs
taken_more p q r is [] = refl
taken_more p q r is (x ∷ xs) = grind (arith, taken_more p q r is xs)

pub all_pass : {A : Type 0} (xs : List A) → xs ≡ filter (λ x. not false) xs
all_pass [] = refl
all_pass (x ∷ xs) = ap (λ rest. x ∷ rest) (all_pass xs)

-- all at once
pub without_each : (rows : List ResRow) (claims : List Queued) → without_all rows claims ≡ filter (λ (x : Queued). not (list_any (λ (r : ResRow). r.number == x.claim.number) rows)) claims
without_each [] claims = all_pass claims
without_each (r ∷ rows) claims =
    without_each rows (filter (λ (x : Queued). not (x.claim.number == r.number)) claims)
    ∙ taken_more (λ (x : Queued). x.claim.number == r.number) (λ (x : Queued). list_any (λ (q : ResRow). q.number == x.claim.number) rows) (λ (x : Queued). list_any (λ (q : ResRow). q.number == x.claim.number) (r ∷ rows))
    (λ x. ap (λ v. v || list_any (λ (q : ResRow). q.number == x.claim.number) rows) (same_back r.number x.claim.number)) claims
