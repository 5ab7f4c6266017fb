-- A claim whose queue is closed is not met.
use Rattle.std.proofs.Common.{◌∙◌, ◌∷◌, ◌≡◌, ◌≤◌, Bool, List, None, Option, Some, ap, arith, cond, false, length, map, refl, sym, true, ℕ, []}
use mathlib.Core.Bool.{true≢false, false≢true}
use Rattle.farm_pick.proofs.Names.{BoardRow, both, bytes_eq, list_any, option_map_or, Want}
use Rattle.std.specs.List.Sorted.{IsStrictlySortedBy}
use Rattle.std.specs.List.{filter}
use Rattle.farm_types.specs.Names.{board_cmp, Claimed, Farm, fits, is_free, IsAmong, least}
use Rattle.farm_sound.proofs.Least.{IsLeast-least}
use Rattle.farm_pick.proofs.Meeting.{meets_parts}
use Rattle.farm_pick.specs.Queued.{IdleBoard, first_kind, idle_board, idle_boards, is_open, queue_kind}

-- a free board is among the idle ones
idle_any : (test : IdleBoard → Bool) (free : BoardRow → Bool) (b : BoardRow) (bs : List BoardRow) → IsAmong b bs → free b ≡ true → test (idle_board b) ≡ true
    → list_any test (map idle_board (filter free bs)) ≡ true
idle_any test free b [] at is passes = absurd at
idle_any test free b (c ∷ bs) at is passes = grind (arith, idle_any test free b bs)

of_kind : (b : BoardRow) (w : Want) (kind : List ℕ) → w.kind ≡ Some kind → fits b w ≡ true → bytes_eq b.kind kind ≡ true
of_kind b w kind is fit = ap (λ k. option_map_or (λ x. bytes_eq b.kind x) k true) (sym is) ∙ (both (option_map_or (λ x. bytes_eq b.kind x) w.kind true) _ fit).0

module _ (F : Farm) (sorted : IsStrictlySortedBy board_cmp F.boards) where
  none_met : (w : Want) (ws : List Want) → ((b : BoardRow) → IsAmong b F.boards → fits b w ≡ true → is_free F.types b ≡ true → ⊥)
      → least F.boards (is_free F.types) (w ∷ ws) ≡ None
  none_met w ws none = by (least F.boards (is_free F.types) (w ∷ ws)) refl
    where
      by : (o : Option (List BoardRow)) → least F.boards (is_free F.types) (w ∷ ws) ≡ o → o ≡ None
      by None is = refl
      by (Some []) is = absurd (false≢true (IsLeast-least F.boards (is_free F.types) (w ∷ ws) [] sorted is).meeting)
      by (Some (b ∷ bs)) is =
          let best = IsLeast-least F.boards (is_free F.types) (w ∷ ws) (b ∷ bs) sorted is in
          let parts = meets_parts (is_free F.types) w ws b bs best.meeting in
          absurd (none b best.among.0 parts.0 parts.2)

  -- some wants whose queue is closed
  closed_unmet : (kind : Option (List ℕ)) (w : Want) (ws : List Want) → ((k : List ℕ) → kind ≡ Some k → w.kind ≡ Some k) → is_open (idle_boards F) kind ≡ false
      → least F.boards (is_free F.types) (w ∷ ws) ≡ None
  closed_unmet None w ws same closed =
      none_met w ws (λ b at fit free. true≢false (sym (idle_any (λ _. true) (is_free F.types) b F.boards at free refl) ∙ closed))
  closed_unmet (Some kind) w ws same closed =
      none_met w ws (λ b at fit free. true≢false
      (sym (idle_any (λ i. bytes_eq i.kind kind) (is_free F.types) b F.boards at free (of_kind b w kind (same kind refl) fit)) ∙ closed))

  pub closed_is_unmet : (c : Claimed) → 1 ≤ length c.wants → is_open (idle_boards F) (queue_kind c) ≡ false → least F.boards (is_free F.types) c.wants ≡ None
  closed_is_unmet c some closed = by c.wants refl
    where
      by : (wants : List Want) → c.wants ≡ wants → least F.boards (is_free F.types) wants ≡ None
      by [] is = let none : length c.wants ≡ 0 = ap length is in absurd (omega arith)
      by (w ∷ ws) is =
          closed_unmet (cond c.reservation None w.kind) w ws (λ k named. grind arith)
          (ap (λ wants. is_open (idle_boards F) (cond c.reservation None (first_kind wants))) (sym is) ∙ closed)
