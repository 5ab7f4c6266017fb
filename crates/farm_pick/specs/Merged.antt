-- A pass that tries, one after the other, the claims alone that may be met or may collect, and what
-- it comes to.
use Rattle.std.specs.Prelude.{◌≡◌, ◌≤◌, ◌&&◌, ◌||◌, ℕ, zero, suc, Bool, true, false, not, List, length, Option, Some, None}
use Rattle.std.specs.List.{filter, find}
use Rattle.std.specs.Option.{option_map_or}
use Rattle.std.specs.Ordering.{is_lt}
use Rattle.farm_types.specs.Names.{claim_cmp, Claimed, Farm, is_free, is_group, IsAmong, IsSound, least, may_collect, queue, serve, serve_all, Served}
use Rattle.farm_types.specs.declared.rows.Want.{Want}
use Rattle.farm_pick.specs.Queued.{idle_boards, is_open, queue_kind}

-- whether a claim comes after the one tried last, if one was
abbrev pub comes_after : Option Claimed → Claimed → Bool
comes_after None c = true
comes_after (Some last) c = is_lt (claim_cmp last c)

-- whether to try a claim may change the farm: its queue is open, or it is a group that may collect
abbrev pub may_act : Farm → Claimed → Bool
may_act F c = is_open (idle_boards F) (queue_kind c) || may_collect F c

-- the claims that are left: of the farm as it now stands, those after the last one, but not that of
-- the group `former`, which went first
abbrev pub rest : ℕ → Option Claimed → Farm → List Claimed
rest former last F = filter (λ c. comes_after last c && not (is_group former c)) (queue F)

abbrev pub is_tried : ℕ → Farm → Option Claimed → Claimed → Bool
is_tried former F last c = comes_after last c && (not (is_group former c) && may_act F c)

-- the next claim that is tried: the first of these that may change the farm
abbrev pub next_tried : ℕ → Farm → Option Claimed → Option Claimed
next_tried former F last = find (is_tried former F last) (queue F)

-- so many claims are tried
abbrev pub merged_pass : ℕ → ℕ → ℕ → Served → Option Claimed → Served
merged_pass former zero t s last = s
merged_pass former (suc n) t s last = option_map_or (λ c. merged_pass former n t (serve t s c) (Some c))
    (next_tried former s.farm last) s

-- the claim of a group is tried, if it is one
abbrev pub first_tried : ℕ → ℕ → Served → Served
first_tried group t s = option_map_or (λ c. serve t s c) (find (is_group group) (queue s.farm)) s

-- once the group's claim was tried, to try these alone serves just what a pass over all claims
-- serves
abbrev pub MergingServes : Type 0
MergingServes = (F : Farm) (group t n : ℕ) → IsSound F → F.collector ≡ 0 → t ≤ F.clock
    → length (queue F) ≤ n
    → merged_pass group n t (first_tried group t (record { farm = F; claims = 0 })) None
    ≡ serve_all F group t

-- what no free boards meet stays so while another claim is tried
abbrev pub UnmetStays : Type 0
UnmetStays =
    (t : ℕ) (s : Served) (c : Claimed) (wants : List Want) → IsSound s.farm → t ≤ s.farm.clock
    → IsAmong c (queue s.farm)
    → least s.farm.boards (is_free s.farm.types) wants ≡ None
    → least (serve t s c).farm.boards (is_free (serve t s c).farm.types) wants ≡ None

-- and to try a claim with such wants changes nothing, unless it may collect
abbrev pub UnmetIsSkipped : Type 0
UnmetIsSkipped = (t : ℕ) (s : Served) (c : Claimed)
    → least s.farm.boards (is_free s.farm.types) c.wants ≡ None → may_collect s.farm c ≡ false
    → serve t s c ≡ s

-- ---- what the queues lend

-- it is the next claim, `former`'s among them, that may change the farm
abbrev pub next_lent : Farm → Option Claimed → Option Claimed
next_lent F last = find (λ c. comes_after last c && may_act F c) (queue F)
