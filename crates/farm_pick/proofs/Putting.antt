-- A new group and a new reservation put one claim into the queue.
use Rattle.std.proofs.Common.{◌&&◌, ◌++◌, ◌+◌, ◌<◌, ◌==◌, ◌∙◌, ◌∷◌, ◌≡◌, ◌≤◌, Bool, List, Option, ap, arith, cond, false, length, map, refl, sym, true, ℕ, []}
use Rattle.farm_pick.proofs.Names.{all_join, AllByRecursion, AllByRecursion-map, AllByRecursion-weaker, append-nil, append_assoc, claim_total, differs}
use Rattle.farm_pick.proofs.Names.{differs_more, filter_all, itself, JobRow, list_all, nat_cmp_is, nat_tests, none_pass, Ordering, ResRow, Want}
use Rattle.std.specs.List.{filter}
use Rattle.std.specs.Ordering.{match_ordering}
use Rattle.std.specs.declared.cmp.Ordering.TheVariants.{Equal, Greater}
use Rattle.std.proofs.lemmas.Bool.{and_from}
use Rattle.std.proofs.lemmas.List.{map-append}
use Rattle.std.proofs.lemmas.List.Elements.{filter-append}
use Rattle.std.proofs.lemmas.List.Sums.{fold-append}
use Rattle.farm_types.specs.Names.{claim_cmp, Claimed, claims, Farm, group_claim, is_waiting, IsSound, job_cmp, leads_claim, members, new_job, new_members, put}
use Rattle.farm_types.specs.Names.{put_all, put_jobs, put_res, queue, res_claim, res_cmp, waits}
use Rattle.farm_pick.proofs.Entries.{IsApart, all_pass, put_late}

-- ---- rows are added behind the others, and their claims to the others

-- a row above all others is put behind them
pub put_behind : {R : Type 0} (cmp : R → R → Ordering) (row : R) (rows : List R) → AllByRecursion (λ r. cmp row r ≡ Greater) rows
    → put cmp rows row ≡ rows ++ row ∷ []
put_behind cmp row [] above = refl
put_behind cmp row (r ∷ rows) above =
    ap (λ o. match_ordering o (row ∷ r ∷ rows) (row ∷ rows) (r ∷ put cmp rows row)) above.0
    ∙ ap (λ rs. r ∷ rs) (put_behind cmp row rows above.1)

-- elements that pass alike, and are seen alike
seen_alike : {A B : Type 0} (p q : A → Bool) (f g : A → B) (xs : List A) → AllByRecursion (λ x. (p x ≡ q x) × (f x ≡ g x)) xs
    → map f (filter p xs) ≡ map g (filter q xs)
seen_alike p q f g [] all = refl
seen_alike p q f g (x ∷ xs) all = grind (arith, seen_alike p q f g xs all.1)

-- jobs of new groups
module _ (F G : Farm) (new : List JobRow) (jobs : G.jobs ≡ F.jobs ++ new) (reservations : G.reservations ≡ F.reservations)
    (apart : AllByRecursion (λ j. AllByRecursion (λ n. (n.group == j.group) ≡ false) new) F.jobs) where
  members_still : (g : ℕ) → AllByRecursion (λ n. (n.group == g) ≡ false) new → members G g ≡ members F g
  members_still g others =
      ap (filter (λ r. r.group == g)) jobs ∙ filter-append (λ r. r.group == g) F.jobs new
      ∙ ap (λ ms. members F g ++ ms) (none_pass (λ r. r.group == g) new others) ∙ append-nil (members F g)

  pub claims_added : claims G ≡ claims F ++ map (group_claim G) (filter (leads_claim G) new)
  claims_added =
      let R = map res_claim (filter is_waiting F.reservations) in
      (λ i. map res_claim (filter is_waiting (reservations i)) ++ map (group_claim G) (filter (leads_claim G) (jobs i)))
      ∙ ap (λ js. R ++ map (group_claim G) js) (filter-append (leads_claim G) F.jobs new)
      ∙ ap (λ cs. R ++ cs) (map-append (group_claim G) (filter (leads_claim G) F.jobs) (filter (leads_claim G) new))
      ∙ ap (λ cs. R ++ (cs ++ map (group_claim G) (filter (leads_claim G) new)))
      (seen_alike (leads_claim G) (leads_claim F) (group_claim G) (group_claim F) F.jobs
      (AllByRecursion-weaker (λ j others. (
        ap (λ ms. (j.number == j.group) && list_all waits ms) (members_still j.group others),
        ap (λ ms. record { reservation = false; number = j.group; owner = j.owner; priority = j.priority; wants = map (λ (m : JobRow). m.want) ms }) (members_still j.group others),
      )) F.jobs apart))
      ∙ sym (append_assoc R (map (group_claim F) (filter (leads_claim F) F.jobs)) (map (group_claim G) (filter (leads_claim G) new)))

-- ---- the members of a new group

module _ (group : ℕ) (owner : List ℕ) (priority : ℕ) where
  -- they are put behind jobs with smaller numbers
  members_behind : (wants : List Want) (roles : List (Option (List ℕ))) (number : ℕ) (body : List ℕ) (jobs : List JobRow)
      → AllByRecursion (λ j. j.number < number) jobs
      → put_all job_cmp jobs (new_members group number owner priority wants roles body) ≡ jobs ++ new_members group number owner priority wants roles body
  members_behind [] roles number body jobs below = sym (append-nil jobs)
  members_behind (want ∷ wants) [] number body jobs below = sym (append-nil jobs)
  members_behind (want ∷ wants) (role ∷ roles) number body jobs below =
      let one = new_job number group owner priority want role body in
      ap (λ js. put_all job_cmp js (new_members group (number + 1) owner priority wants roles []))
      (put_behind job_cmp one jobs (AllByRecursion-weaker (λ j low. sym (nat_cmp_is number j.number Greater low)) jobs below))
      ∙ members_behind wants roles (number + 1) [] (jobs ++ one ∷ [])
      (all_join (λ j. j.number < number + 1) jobs (one ∷ []) (AllByRecursion-weaker (λ j low. omega arith) jobs below) (omega arith, tt))
      ∙ append_assoc jobs (one ∷ []) (new_members group (number + 1) owner priority wants roles [])

  abbrev IsMember : ℕ → JobRow → Type 0
  IsMember number m = (number ≤ m.number) × (m.group ≡ group) × (waits m ≡ true)

  are_members : (wants : List Want) (roles : List (Option (List ℕ))) (number : ℕ) (body : List ℕ)
      → AllByRecursion (IsMember number) (new_members group number owner priority wants roles body)
  are_members [] roles number body = tt
  are_members (want ∷ wants) [] number body = tt
  are_members (want ∷ wants) (role ∷ roles) number body = (
    (omega arith, refl, refl),
    AllByRecursion-weaker (λ m is. (omega (arith, is.0), is.1, is.2)) (new_members group (number + 1) owner priority wants roles [])
        (are_members wants roles (number + 1) []),
  )

  members_wants : (wants : List Want) (roles : List (Option (List ℕ))) (number : ℕ) (body : List ℕ) → length roles ≡ length wants
      → map (λ (m : JobRow). m.want) (new_members group number owner priority wants roles body) ≡ wants
  members_wants [] roles number body long = refl
  members_wants (want ∷ wants) [] number body long = absurd (omega arith)
  members_wants (want ∷ wants) (role ∷ roles) number body long = ap (λ ws. want ∷ ws) (members_wants wants roles (number + 1) [] (omega arith))

all_hold : {A : Type 0} (test : A → Bool) (xs : List A) → AllByRecursion (λ x. test x ≡ true) xs → list_all test xs ≡ true
all_hold test [] all = refl
all_hold test (x ∷ xs) all = and_from (test x) (list_all test xs) all.0 (all_hold test xs all.1)

-- ---- a new group

module _ (F : Farm) (sound : IsSound F) (caller : List ℕ) (priority : ℕ) (want : Want) (wants : List Want) (role : Option (List ℕ))
    (roles : List (Option (List ℕ))) (body : List ℕ) where
  abbrev one : JobRow
  one = new_job F.next F.next caller priority want role body

  abbrev more : List JobRow
  more = new_members F.next (F.next + 1) caller priority wants roles []

  abbrev new : List JobRow
  new = one ∷ more

  abbrev G : Farm
  G = record (put_jobs F (new_members F.next F.next caller priority (want ∷ wants) (role ∷ roles) body)) { next = F.next + length (want ∷ wants) }

  abbrev claim : Claimed
  claim = record { reservation = false; number = F.next; owner = caller; priority = priority; wants = want ∷ wants }

  abbrev mine : JobRow → Bool
  mine r = r.group == F.next

  jobs_are : G.jobs ≡ F.jobs ++ new
  jobs_are = members_behind F.next caller priority (want ∷ wants) (role ∷ roles) F.next body F.jobs
      (AllByRecursion-weaker (λ j row. row.number.1) F.jobs sound.steady.jobs)

  new_are : AllByRecursion (IsMember F.next caller priority F.next) new
  new_are = are_members F.next caller priority (want ∷ wants) (role ∷ roles) F.next body

  -- the new jobs are the members of the new group
  members_are : members G F.next ≡ new
  members_are =
      ap (filter mine) jobs_are ∙ filter-append mine F.jobs new
      ∙ ap (λ ms. ms ++ filter mine new)
      (none_pass mine F.jobs (AllByRecursion-weaker (λ j row. differs j.group F.next (omega (arith, row.group.0, row.number.1))) F.jobs sound.steady.jobs))
      ∙ all_pass mine new (AllByRecursion-weaker (λ m is. ap (λ g. g == F.next) is.1 ∙ itself F.next) new new_are)

  -- the first of them leads its claim, and the others lead none
  first_leads : leads_claim G one ≡ true
  first_leads =
      ap (λ v. v && list_all waits (members G F.next)) (itself F.next)
      ∙ ap (list_all waits) members_are ∙ all_hold waits new (AllByRecursion-weaker (λ m is. is.2) new new_are)

  one_leads : filter (leads_claim G) new ≡ one ∷ []
  one_leads =
      ap (λ v. cond v (one ∷ filter (leads_claim G) more) (filter (leads_claim G) more)) first_leads
      ∙ ap (λ ms. one ∷ ms) (none_pass (leads_claim G) more
      (AllByRecursion-weaker (λ m is. ap (λ v. v && list_all waits (members G m.group)) (differs_more m.number m.group (omega (arith, is.0, is.1)))) more
      (are_members F.next caller priority wants roles (F.next + 1) [])))

  claim_is : length (role ∷ roles) ≡ length (want ∷ wants) → group_claim G one ≡ claim
  claim_is long =
      ap (λ ms. record claim { wants = map (λ (m : JobRow). m.want) ms }) members_are
      ∙ ap (λ ws. record claim { wants = ws }) (members_wants F.next caller priority (want ∷ wants) (role ∷ roles) F.next body long)

  group_puts : length (role ∷ roles) ≡ length (want ∷ wants) → queue G ≡ put claim_cmp (queue F) claim
  group_puts long =
      ap (put_all claim_cmp [])
      (claims_added F G new jobs_are refl
      (AllByRecursion-weaker (λ j row. AllByRecursion-weaker (λ m is. differs_more m.group j.group (omega (arith, is.1, row.group.0, row.number.1))) new new_are)
      F.jobs sound.steady.jobs)
      ∙ ap (λ ms. claims F ++ map (group_claim G) ms) one_leads ∙ ap (λ c. claims F ++ c ∷ []) (claim_is long))
      ∙ fold-append (put claim_cmp) [] (claims F) (claim ∷ [])

pub submit_puts : (F : Farm) → IsSound F → (caller : List ℕ) (priority : ℕ) (wants : List Want) (roles : List (Option (List ℕ))) (body : List ℕ)
    → 1 ≤ length wants → length roles ≡ length wants
    → queue (record (put_jobs F (new_members F.next F.next caller priority wants roles body)) { next = F.next + length wants })
    ≡ put claim_cmp (queue F) (record { reservation = false; number = F.next; owner = caller; priority = priority; wants = wants })
submit_puts F sound caller priority [] roles body some long = absurd (omega arith)
submit_puts F sound caller priority (want ∷ wants) [] body some long = absurd (omega arith)
submit_puts F sound caller priority (want ∷ wants) (role ∷ roles) body some long = group_puts F sound caller priority want wants role roles body long

-- ---- a new reservation

claim_ties : (c d : Claimed) → claim_cmp c d ≡ Equal → c.number ≡ d.number
claim_ties c d ties = grind (arith, nat_tests)

pub reserve_puts : (F : Farm) → IsSound F → (row : ResRow) (next : ℕ) → row.number ≡ F.next → is_waiting row ≡ true
    → queue (record (put_res F row) { next = next }) ≡ put claim_cmp (queue F) (res_claim row)
reserve_puts F sound row next fresh waits =
    let R = map res_claim (filter is_waiting F.reservations) in
    let J = map (group_claim F) (filter (leads_claim F) F.jobs) in
    let behind : put res_cmp F.reservations row ≡ F.reservations ++ row ∷ [] =
    put_behind res_cmp row F.reservations
    (AllByRecursion-weaker (λ r is. sym (nat_cmp_is row.number r.number Greater (omega (arith, fresh, is.number.1)))) F.reservations sound.steady.reservations) in
    let apart : AllByRecursion (IsApart claim_cmp (res_claim row)) J =
    AllByRecursion-map (λ (j : JobRow). j.group < F.next) (IsApart claim_cmp (res_claim row)) (group_claim F)
    (λ j low ties. let same : row.number ≡ j.group = claim_ties (res_claim row) (group_claim F j) ties in absurd (omega (arith, same, low, fresh)))
    (filter (leads_claim F) F.jobs)
    (AllByRecursion-weaker (λ j two. two.0) (filter (leads_claim F) F.jobs)
    (filter_all (λ (j : JobRow). j.group < F.next) (leads_claim F) F.jobs
    (AllByRecursion-weaker (λ j is. omega (arith, is.group.0, is.number.1)) F.jobs sound.steady.jobs))) in
    ap (λ rs. put_all claim_cmp [] (map res_claim (filter is_waiting rs) ++ J)) behind
    ∙ ap (λ rs. put_all claim_cmp [] (map res_claim rs ++ J))
    (filter-append is_waiting F.reservations (row ∷ []) ∙ ap (λ v. filter is_waiting F.reservations ++ cond v (row ∷ []) []) waits)
    ∙ ap (λ cs. put_all claim_cmp [] (cs ++ J)) (map-append res_claim (filter is_waiting F.reservations) (row ∷ []))
    ∙ fold-append (put claim_cmp) [] (R ++ res_claim row ∷ []) J
    ∙ ap (λ rows. put_all claim_cmp rows J) (fold-append (put claim_cmp) [] R (res_claim row ∷ []))
    ∙ put_late claim_cmp claim_total (res_claim row) J (put_all claim_cmp [] R) apart
    ∙ ap (λ rows. put claim_cmp rows (res_claim row)) (sym (fold-append (put claim_cmp) [] R J))
