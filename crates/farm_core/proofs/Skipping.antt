-- Claims that want what was found unmet are passed over.
use Rattle.std.proofs.Common.{[], ◌≡◌, ◌∙◌, ◌+◌, ℕ, zero, suc, List, ◌∷◌, take, Bool, true, false, Option, Some, None, inl, inr, refl, sym, ap}
use Rattle.std.proofs.Common.{subst, arith}
use Rattle.std.specs.List.{filter}
use Rattle.farm_core.proofs.Names.{among_has, BoardRow, ClaimKind, Global, IsClaim, option_map_or, queue_claims, Want}
use Rattle.farm_types.specs.Names.{Claimed, EachTwo, Farm, give, is_free, IsAmong, IsSound, least, pass_over, queue, serve, Served, shown_claim}
use Rattle.farm_pick.proofs.Merging.{unmet_stays}
use Rattle.farm_core.specs.Came.{Seen}
use Rattle.std.specs.Prelude.{Vec}
use Rattle.farm_core.specs.Serving.{AreMisses, MatchesRows, IsMissed, Serves, count_after, wants_of}
use Rattle.farm_core.proofs.Passing.{asks_claim}

-- ---- what a claim wants, by its rows

pub wants_asked : (F : Farm) (c : Claimed) → MatchesRows c.reservation F c → c.wants ≡ wants_of F (shown_claim c).kind c.number
wants_asked F c asks = grind arith

pub wants_among : (F : Farm) (c : Claimed) → IsSound F → IsAmong c (queue F) → c.wants ≡ wants_of F (shown_claim c).kind c.number
wants_among F c sound at = wants_asked F c (asks_claim F c (among_has (IsClaim F) c (queue F) (queue_claims F sound.steady) at))

-- ---- those that pass

pub among_filter : (test : Claimed → Bool) (d : Claimed) (xs : List Claimed) → IsAmong d (filter test xs) → IsAmong d xs × (test d ≡ true)
among_filter test d [] at = absurd at
among_filter test d (x ∷ xs) at = grind (arith, among_filter test d xs)

-- ---- what is unmet stays so

pub one_of : (a b : Claimed) (xs : List Claimed) → EachTwo (λ (c d : Claimed). c.number ≡ d.number → ⊥) xs → IsAmong a xs → IsAmong b xs → a.number ≡ b.number → a ≡ b
one_of a b [] each here there same = absurd here
one_of a b (x ∷ xs) each (inl here) (inl there) same = here ∙ sym there
one_of a b (x ∷ xs) each (inl here) (inr there) same =
    absurd (among_has (λ (d : Claimed). x.number ≡ d.number → ⊥) b xs each.0 there (sym (ap (λ (c : Claimed). c.number) here) ∙ same))
one_of a b (x ∷ xs) each (inr here) (inl there) same =
    absurd (among_has (λ (d : Claimed). x.number ≡ d.number → ⊥) a xs each.0 here (sym (ap (λ (c : Claimed). c.number) there) ∙ sym same))
one_of a b (x ∷ xs) each (inr here) (inr there) same = one_of a b xs each.1 here there same

module _ (F G : Farm) (c : Claimed) (served : Bool) (sound : IsSound F) (at : IsAmong c (queue F))
    (serves : (n : ℕ) → serve F.clock (record { farm = F; claims = n }) c ≡ record { farm = G; claims = count_after n served }) where
  stays : (wants : List Want) → IsMissed F wants → IsMissed G wants
  stays wants missed =
      subst (λ (s : Served). IsMissed s.farm wants) (serves 0) (unmet_stays F.clock (record { farm = F; claims = 0 }) c wants sound (omega arith) at missed)

  all_stay : (misses : List (Vec Want Global)) → AreMisses F misses → AreMisses G misses
  all_stay [] all = tt
  all_stay (v ∷ misses) all = (stays v.items all.0, all_stay misses all.1)

  -- a claim that wasn't served is unmet
  not_met : served ≡ false → IsMissed G c.wants
  not_met is = stays c.wants (by (least F.boards (is_free F.types) c.wants) refl)
    where
      by : (o : Option (List BoardRow)) → least F.boards (is_free F.types) c.wants ≡ o → o ≡ None
      by None same = refl
      by (Some bs) same =
          let counts : ◌≡◌ {A = ℕ} 1 0 =
          sym (ap (λ o. (option_map_or {U = Served} (λ bs. record { farm = give F c bs F.clock; claims = 0 + 1 }) o (record { farm = pass_over F c; claims = 0 })).claims) same)
          ∙ ap (λ (s : Served). s.claims) (serves 0) ∙ ap (count_after 0) is in
          absurd (omega (arith, counts))

pub all_taken : (F : Farm) (misses : List (Vec Want Global)) (n : ℕ) → AreMisses F misses → AreMisses F (take n misses)
all_taken F [] zero all = tt
all_taken F [] (suc n) all = tt
all_taken F (v ∷ misses) zero all = tt
all_taken F (v ∷ misses) (suc n) all = (all.0, all_taken F misses n all.1)

-- ---- a claim that is tried

module _ (D E : Seen) (c : Claimed) (served : Bool) (sound : IsSound D.farm) (at : IsAmong c (queue D.farm)) (serves : Serves D c served E) where
  pub known_on : (misses : List (Vec Want Global)) → AreMisses D.farm misses → AreMisses E.farm misses
  known_on misses all = all_stay D.farm E.farm c served sound at serves.0 misses all

  pub own_missed : served ≡ false → (kind : ClaimKind) (number : ℕ) → (shown_claim c).kind ≡ kind → c.number ≡ number → IsMissed E.farm (wants_of D.farm kind number)
  own_missed misses kind number is same =
      subst (IsMissed E.farm) (wants_among D.farm c sound at ∙ (λ i. wants_of D.farm (is i) (same i))) (not_met D.farm E.farm c served sound at serves.0 misses)
