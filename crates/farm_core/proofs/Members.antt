-- New members are put one after another.
use Rattle.std.proofs.Common.{[], ◌≡◌, ℕ, zero, suc, ◌+◌, ◌<◌, ◌≤◌, List, ◌∷◌, length, drop, get_or, Option, refl, arith, add-one}
use Rattle.farm_core.proofs.Names.{nat_tests, Want}
use Rattle.farm_core.specs.Edits.{text_at}
use Rattle.farm_types.specs.Names.{new_job, new_members}

pub text_next : (n : ℕ) (body : List ℕ) → text_at (n + 1) body ≡ []
text_next n body = grind (arith, nat_tests)

module _ (group : ℕ) (owner : List ℕ) (priority : ℕ) where
  by_suc : (wants : List Want) (roles : List (Option (List ℕ))) (n number : ℕ) (text : List ℕ) (d : Want) (e : Option (List ℕ)) → n < length wants → length roles ≡ length wants
      → new_members group number owner priority (drop n wants) (drop n roles) text ≡ new_job number group owner priority (get_or wants n d) (get_or roles n e) text ∷ new_members group (number + 1) owner priority (drop (suc n) wants) (drop (suc n) roles) []
  by_suc [] roles n number text d e low same = absurd (omega arith)
  by_suc (w ∷ wants) [] n number text d e low same = absurd (omega arith)
  by_suc (w ∷ wants) (r ∷ roles) zero number text d e low same = refl
  by_suc (w ∷ wants) (r ∷ roles) (suc n) number text d e low same = by_suc wants roles n number text d e (omega arith) (omega arith)

  -- one more member
  pub members_more : (wants : List Want) (roles : List (Option (List ℕ))) (n number : ℕ) (text : List ℕ) (d : Want) (e : Option (List ℕ)) → n < length wants → length roles ≡ length wants
      → new_members group number owner priority (drop n wants) (drop n roles) text ≡ new_job number group owner priority (get_or wants n d) (get_or roles n e) text ∷ new_members group (number + 1) owner priority (drop (n + 1) wants) (drop (n + 1) roles) []
  members_more wants roles n number text d e low same = rw (add-one n) (by_suc wants roles n number text d e low same)

  no_roles : (wants : List Want) (number : ℕ) (text : List ℕ) → new_members group number owner priority wants [] text ≡ []
  no_roles [] number text = refl
  no_roles (w ∷ wants) number text = refl

  -- no more members
  pub members_end : (wants : List Want) (roles : List (Option (List ℕ))) (n number : ℕ) (text : List ℕ) → length wants ≤ n → new_members group number owner priority (drop n wants) (drop n roles) text ≡ []
  members_end [] roles zero number text high = refl
  members_end [] roles (suc n) number text high = refl
  members_end (w ∷ wants) roles zero number text high = absurd (omega arith)
  members_end (w ∷ wants) [] (suc n) number text high = no_roles (drop n wants) number text
  members_end (w ∷ wants) (r ∷ roles) (suc n) number text high = members_end wants roles n number text (omega arith)
