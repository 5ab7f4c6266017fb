-- The queues are filled from the last claim on.
use Rattle.std.proofs.Common.{[], ◌≡◌, ◌∙◌, ◌+◌, ◌++◌, ◌<◌, ℕ, zero, suc, List, ◌∷◌, length, map, drop, get_or, refl, sym, ap}
use Rattle.std.proofs.Common.{subst, arith, add-one, append-nil}
use Rattle.farm_core.proofs.Names.{AllByRecursion, Claim, idle_boards, IsClaim, length-map, queue_claims, queue_lists}
use Rattle.farm_core.proofs.Names.{queued_of, QueueLists}
use Rattle.std.proofs.lemmas.List.{append_assoc, drop_all, length-append}
use Rattle.farm_types.specs.Names.{Claimed, Farm, IsSound, put, queue, shown_claim}
use Rattle.farm_pick.specs.Index.{queued_cmp}
use Rattle.farm_pick.specs.Queued.{queue_kind}
use Rattle.farm_pick.proofs.Filling.{fresh_before, last_put}
use Rattle.farm_pick.proofs.Leading.{lead_of, of_reservation}
use Rattle.farm_core.specs.Following.{IsFresh, kind_in}

-- ---- the claim at a place of the queue

pub record IsHere (P : Claimed → Type 0) (cs : List Claimed) (k : ℕ) : Type 0 where
  pub claimed : Claimed
  pub at : get_or cs k claimed ≡ claimed
  pub rest : drop k cs ≡ claimed ∷ drop (suc k) cs
  pub shown : (d : Claim) → get_or (map shown_claim cs) k d ≡ shown_claim claimed
  pub is : P claimed

here_at : (P : Claimed → Type 0) (cs : List Claimed) (k : ℕ) → AllByRecursion P cs → k < length cs → IsHere P cs k
here_at P [] k all low = absurd (omega arith)
here_at P (c ∷ cs) zero all low = record { claimed = c; at = refl; rest = refl; shown = λ d. refl; is = all.0 }
here_at P (c ∷ cs) (suc k) all low =
    let h = here_at P cs k all.1 (omega arith) in
    record { claimed = h.claimed; at = h.at; rest = h.rest; shown = h.shown; is = h.is }

at_seam : {A : Type 0} (xs ys : List A) (y d : A) → get_or (xs ++ (y ∷ ys)) (length xs) d ≡ y
at_seam [] ys y d = refl
at_seam (x ∷ xs) ys y d = at_seam xs ys y d

-- these claims are still to be put, and those behind them stand in the queues
pub record Fills (F : Farm) (queues : QueueLists) (shown : List Claim) : Type 0 where
  pub left : shown ++ map shown_claim (drop (length shown) (queue F)) ≡ map shown_claim (queue F)
  pub put : queues.claims ≡ map queued_of (drop (length shown) (queue F))
  pub boards : queues.boards ≡ idle_boards F

module _ (F : Farm) (sound : IsSound F) where
  -- its type is found among the rows
  kind_found : (c : Claimed) → IsClaim F c → kind_in F.jobs (shown_claim c) ≡ queue_kind c
  kind_found c claim = grind (arith, of_reservation F c claim, lead_of F c sound claim)

  -- ---- filling

  pub fills_begin : (queues : QueueLists) (shown : List Claim) → queues ≡ record { claims = []; boards = idle_boards F } → shown ≡ map shown_claim (queue F) → Fills F queues shown
  fills_begin queues shown begin all =
      let long : length shown ≡ length (queue F) = ap length all ∙ length-map (queue F) shown_claim in
      let none : drop (length shown) (queue F) ≡ [] = drop_all (length shown) (queue F) (omega (arith, long)) in
      record {
        left = ap (λ cs. shown ++ map shown_claim cs) none ∙ append-nil shown ∙ all;
        put = ap (λ (q : QueueLists). q.claims) begin ∙ sym (ap (map queued_of) none);
        boards = ap (λ (q : QueueLists). q.boards) begin;
      }

  module _ (queues : QueueLists) (shown rest : List Claim) (claim : Claim) (last : shown ≡ rest ++ (claim ∷ [])) (fills : Fills F queues shown) where
    long : length shown ≡ suc (length rest)
    long = ap length last ∙ length-append rest (claim ∷ []) ∙ add-one (length rest)

    -- all of them, with the last one seen
    whole : rest ++ (claim ∷ map shown_claim (drop (suc (length rest)) (queue F))) ≡ map shown_claim (queue F)
    whole =
        sym (append_assoc rest (claim ∷ []) (map shown_claim (drop (suc (length rest)) (queue F))))
        ∙ (λ i. sym last i ++ map shown_claim (drop (sym long i) (queue F)))
        ∙ fills.left

    low : length rest < length (queue F)
    low =
        let sum = ap length whole in
        let one = length-append rest (claim ∷ map shown_claim (drop (suc (length rest)) (queue F))) in
        let all = length-map (queue F) shown_claim in
        omega (arith, sum, one, all)

    here : IsHere (IsClaim F) (queue F) (length rest)
    here = here_at (IsClaim F) (queue F) (length rest) (queue_claims F sound.steady) low

    same : shown_claim here.claimed ≡ claim
    same = sym (here.shown claim) ∙ ap (λ cs. get_or cs (length rest) claim) (sym whole) ∙ at_seam rest (map shown_claim (drop (suc (length rest)) (queue F))) claim claim

    behind : queues.claims ≡ map queued_of (drop (length rest + 1) (queue F))
    behind = fills.put ∙ ap (λ n. map queued_of (drop n (queue F))) (long ∙ sym (add-one (length rest)))

    pub fills_fresh : IsFresh claim.number queues.claims
    fills_fresh =
        subst (λ cs. IsFresh claim.number cs) (sym behind)
        (subst (λ (k : Claim). IsFresh k.number (map queued_of (drop (length rest + 1) (queue F)))) same (fresh_before F (length rest) here.claimed sound low here.at))

    pub fills_on : (news : QueueLists) → news ≡ record queues { claims = put queued_cmp queues.claims (record { claim = claim; kind = kind_in F.jobs claim }) } → Fills F news rest
    fills_on news made = record {
      left = ap (λ cs. rest ++ map shown_claim cs) here.rest ∙ ap (λ k. rest ++ (k ∷ map shown_claim (drop (suc (length rest)) (queue F)))) same ∙ whole;
      put = ap (λ (q : QueueLists). q.claims) made
          ∙ (λ i. put queued_cmp (behind i) (record { claim = sym same i; kind = (ap (kind_in F.jobs) (sym same) ∙ kind_found here.claimed here.is) i }))
          ∙ last_put F (length rest) here.claimed low here.at;
      boards = ap (λ (q : QueueLists). q.boards) made ∙ fills.boards;
    }

  pub fills_end : (queues : QueueLists) (shown : List Claim) → shown ≡ [] → Fills F queues shown → queues ≡ queue_lists F
  fills_end queues shown none fills =
      let claims = fills.put ∙ ap (λ cs. map queued_of (drop (length cs) (queue F))) none in
      λ i. record { claims = claims i; boards = fills.boards i }

pub no_claims : (shown : List Claim) → length shown ≡ 0 → shown ≡ []
no_claims [] none = refl
no_claims (k ∷ shown) none = absurd (omega (arith, none))
