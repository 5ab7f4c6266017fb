-- Rows with different keys are put in any order.
use native.Mathlib.Omega.{arith}
use Rattle.std.proofs.Common.{[], ◌∙◌, ◌∷◌, ◌≡◌, List, ap, refl, sym}
use Rattle.farm_sound.proofs.Names.{Equal, Greater, IsTotalOrder, Less, match_ordering, Ordering, ordering_reverse}
use Rattle.farm_types.specs.Names.{put}

module _ {R : Type 0} (cmp : R → R → Ordering) (total : IsTotalOrder cmp) where
  -- a row below, at or above the first one
  put_by : (o : Ordering) (row r : R) (rows : List R) → cmp row r ≡ o
      → put cmp (r ∷ rows) row ≡ match_ordering o (row ∷ r ∷ rows) (row ∷ rows) (r ∷ put cmp rows row)
  put_by o row r rows is = ap (λ o. match_ordering o (row ∷ r ∷ rows) (row ∷ rows) (r ∷ put cmp rows row)) is

  flip : (a b : R) (o : Ordering) → cmp a b ≡ o → cmp b a ≡ ordering_reverse o
  flip a b o is = total.antisymm b a ∙ ap ordering_reverse is

  -- two rows that both stand below the others
  both_first : (a b : R) (rows : List R) → (cmp a b ≡ Equal → ⊥) → put cmp rows a ≡ a ∷ rows → put cmp rows b ≡ b ∷ rows
      → put cmp (a ∷ rows) b ≡ put cmp (b ∷ rows) a
  both_first a b rows apart first second = grind arith

  -- one below the first row or at it, and one above it
  parted : (a b r : R) (rows : List R) → cmp b r ≡ Greater → ((xs : List R) → put cmp (r ∷ xs) a ≡ a ∷ r ∷ xs) → cmp b a ≡ Greater
      → put cmp (put cmp (r ∷ rows) a) b ≡ put cmp (put cmp (r ∷ rows) b) a
  parted a b r rows above low high =
      ap (λ xs. put cmp xs b) (low rows) ∙ put_by Greater b a (r ∷ rows) high ∙ ap (λ xs. a ∷ xs) (put_by Greater b r rows above)
      ∙ sym (ap (λ xs. put cmp xs a) (put_by Greater b r rows above) ∙ low (put cmp rows b))

  replaced : (a b r : R) (rows : List R) → cmp a r ≡ Equal → cmp b r ≡ Greater → put cmp (put cmp (r ∷ rows) a) b ≡ put cmp (put cmp (r ∷ rows) b) a
  replaced a b r rows at above =
      let high : cmp b a ≡ Greater = flip a b Less (total.congr a r b at ∙ flip b r Greater above) in
      ap (λ xs. put cmp xs b) (put_by Equal a r rows at) ∙ put_by Greater b a rows high
      ∙ sym (ap (λ xs. put cmp xs a) (put_by Greater b r rows above) ∙ put_by Equal a r (put cmp rows b) at)

  beside : (a b r : R) (rows : List R) → cmp a r ≡ Less → cmp b r ≡ Equal → put cmp (put cmp (r ∷ rows) a) b ≡ put cmp (put cmp (r ∷ rows) b) a
  beside a b r rows below at =
      let high : cmp b a ≡ Greater = total.congr b r a at ∙ flip a r Less below in
      ap (λ xs. put cmp xs b) (put_by Less a r rows below) ∙ put_by Greater b a (r ∷ rows) high ∙ ap (λ xs. a ∷ xs) (put_by Equal b r rows at)
      ∙ sym (ap (λ xs. put cmp xs a) (put_by Equal b r rows at) ∙ put_by Less a b rows (flip b a Greater high))

  pub puts_commute : (a b : R) → (cmp a b ≡ Equal → ⊥) → (rows : List R) → put cmp (put cmp rows a) b ≡ put cmp (put cmp rows b) a
  puts_commute a b apart [] = both_first a b [] apart refl refl
  puts_commute a b apart (r ∷ rows) = grind (arith, puts_commute a b apart rows)
