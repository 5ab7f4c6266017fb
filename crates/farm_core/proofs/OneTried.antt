-- A claim is tried: it is served, or it isn't met and passed over.
use Rattle.std.proofs.Common.{◌≡◌, ◌∙◌, ◌==◌, ℕ, List, length, filter, not, Bool, true, false, Option, Some, None, option_map, sym, ap, subst}
use Rattle.farm_types.specs.Names.{Claimed, is_free, IsAmong, IsSound, least, queue, shown_claim}
use Rattle.farm_core.proofs.Names.{among_has, BoardRow, ClaimKind, IsClaim, queue_claims, Queued}
use Rattle.farm_pick.proofs.Filling.{numbers_differ}
use Rattle.farm_pick.specs.Least.{boards_at}
use Rattle.farm_core.specs.Came.{Seen}
use Rattle.farm_core.specs.Following.{without_boards}
use Rattle.farm_core.specs.Serving.{MatchesRows, Serves, Tries, names_at, wants_of}
use Rattle.farm_core.proofs.Assigned.{queues_left}
use Rattle.farm_core.proofs.Passing.{asks_claim}
use Rattle.farm_core.proofs.Places.{names_boards}
use Rattle.farm_core.proofs.Serving.{assigned, claim_served, met, names_of}
use Rattle.farm_core.proofs.Skipping.{one_of, wants_asked}

-- a claim is given the boards that meet it
module _ (D : Seen) (kind : ClaimKind) (number : ℕ) (c : Claimed) (of_kind : (shown_claim c).kind ≡ kind) (same : c.number ≡ number) (asks : MatchesRows c.reservation D.farm c) where
  abbrev found : Option (List BoardRow)
  found = least D.farm.boards (is_free D.farm.types) (wants_of D.farm kind number)

  wants : c.wants ≡ wants_of D.farm kind number
  wants = wants_asked D.farm c asks ∙ (λ i. wants_of D.farm (of_kind i) (same i))

  pub given_boards : (picked : List ℕ) → Some (boards_at D.farm.boards picked) ≡ found → (E : Seen) → E.farm ≡ assigned D.farm kind number (names_at D.farm.boards picked)
      → E.queues ≡ record { claims = filter (λ (x : Queued). not (x.claim.number == number)) D.queues.claims; boards = without_boards (names_at D.farm.boards picked) D.queues.boards }
      → Tries D c true E
  given_boards picked is E farm queues =
      let names = names_at D.farm.boards picked in
      let called : Some names ≡ option_map names_of found = ap Some (sym (names_boards D.farm.boards picked)) ∙ ap (option_map names_of) is in met (
        λ n. claim_served D.farm c E.farm kind number n names (wants_of D.farm kind number) of_kind same wants called farm,
        queues
            ∙ (λ i. record { claims = filter (λ (x : Queued). not (x.claim.number == sym same i)) D.queues.claims; boards = without_boards names D.queues.boards })
            ∙ queues_left D.farm c (wants_of D.farm kind number) wants D.queues names called,
      )

module _ (D : Seen) (kind : ClaimKind) (number boards : ℕ) (sound : IsSound D.farm)
    (waits : (c : Claimed) × IsAmong c (queue D.farm) × ((shown_claim c).kind ≡ kind) × (c.number ≡ number) × (length c.wants ≡ boards))
    (E : Seen) (served : Bool) (tries : (c : Claimed) → (shown_claim c).kind ≡ kind → c.number ≡ number → MatchesRows c.reservation D.farm c → Tries D c served E) where
  asked : (c : Claimed) → (shown_claim c).kind ≡ kind → c.number ≡ number → IsAmong c (queue D.farm) → Tries D c served E
  asked c is same at = tries c is same (asks_claim D.farm c (among_has (IsClaim D.farm) c (queue D.farm) (queue_claims D.farm sound.steady) at))

  -- one that is met is served
  pub met_serves : served ≡ true → (c : Claimed) → (shown_claim c).kind ≡ kind → c.number ≡ number → IsAmong c (queue D.farm) → Serves D c true E
  met_serves met c is same at = (asked c is same at).met met

  -- where it isn't, nothing has changed yet
  pub still_same : served ≡ false → E ≡ D
  still_same out = ((asked waits.0 waits.2 waits.3 waits.1).misses out).0

  -- and it is passed over
  pub passed_serves : served ≡ false → (G : Seen)
      → ((c : Claimed) → (shown_claim c).kind ≡ kind → c.number ≡ number → length c.wants ≡ boards
      → least E.farm.boards (is_free E.farm.types) c.wants ≡ None → Serves E c false G)
      → (c : Claimed) → (shown_claim c).kind ≡ kind → c.number ≡ number → IsAmong c (queue D.farm) → Serves D c false G
  passed_serves out G over c is same at =
      let two = (asked c is same at).misses out in
      let one : c ≡ waits.0 = one_of c waits.0 (queue D.farm) (numbers_differ D.farm sound) at waits.1 (same ∙ sym waits.3) in
      subst (λ (X : Seen). Serves X c false G) two.0
      (over c is same (ap (λ (e : Claimed). length e.wants) one ∙ waits.4) (subst (λ (X : Seen). least X.farm.boards (is_free X.farm.types) c.wants ≡ None) (sym two.0) two.1))
