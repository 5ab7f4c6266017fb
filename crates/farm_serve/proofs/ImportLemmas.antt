-- One more call of an import, and how an import ends.
use Rattle.std.proofs.Common.{◌≡◌, ◌≤◌, ◌<◌, ◌↔◌, ◌+◌, ℕ, List, [], ◌∷◌, ◌++◌, Bool, false, cond, take, length, get_or, refl, sym, ap, ◌∙◌, subst, arith, Err}
use Rattle.std.specs.Prelude.{Some, None}
use Rattle.std.specs.List.{count_by}
use Rattle.std.proofs.lemmas.List.{take_all}
use Rattle.std.proofs.lemmas.List.Sums.{sum_by-append}
use Rattle.farm_serve.proofs.Names.{Call, DeskFault, Ghosts, IsChange, KeeperState, KeepFault, KeepsEither, KeepsFarm, KeepsOwnFarm}
use Rattle.farm_types.specs.Names.{answer, Answered, Changed, Denied, Farm, Repeated, run, step}
use Rattle.farm_types.specs.declared.rows.Reply.{Reply}
use Rattle.farm_keep.specs.Faults.{IsActFault}
use Rattle.farm_keep.specs.Headline.{answers_of}
use Rattle.farm_keep.proofs.RunLemmas.{answers_more, next_change, run_more}
use Rattle.farm_serve.specs.Names.{EndsBy, ImportsAll, is_accepted, is_kept, IsCounted, IsStopped, Reaches}
use Rattle.farm_serve.proofs.AnswerLemmas.{acted}

-- ---- one more call

-- the farm G is that of the first calls, the next one is this, and this is its answer
pub record IsNext (F G : Farm) (calls : List Call) (i : ℕ) (call : Call) (answered : Answered) : Type 0 where
  pub low : i < length calls
  pub here : call ≡ get_or calls i call
  pub before : G ≡ run F (take i calls)
  pub answer_is : answered ≡ answer G call

answers_with : (F G : Farm) (calls : List Call) (i : ℕ) (call : Call) (answered : Answered) → IsNext F G calls i call answered
    → answers_of F (take (i + 1) calls) ≡ answers_of F (take i calls) ++ answered ∷ []
answers_with F G calls i call answered turn =
    let said : answer (run F (take i calls)) (get_or calls i call) ≡ answered =
    ap (answer (run F (take i calls))) (sym turn.here) ∙ ap (λ H. answer H call) (sym turn.before) ∙ sym turn.answer_is in
    answers_more F calls i call turn.low ∙ ap (λ a. answers_of F (take i calls) ++ a ∷ []) said

-- the farm after it
pub farm_after : (F G : Farm) (calls : List Call) (i : ℕ) (call : Call) → i < length calls → call ≡ get_or calls i call
    → G ≡ run F (take i calls) → step G call ≡ run F (take (i + 1) calls)
farm_after F G calls i call low here before =
    ap (λ H. step H call) before ∙ ap (step (run F (take i calls))) here ∙ sym (run_more F calls i call low)

-- how many of the first calls were answered so
abbrev so_far : (p : Answered → Bool) (F : Farm) (calls : List Call) (i : ℕ) → ℕ
so_far p F calls i = count_by p (answers_of F (take i calls))

one_more : (p : Answered → Bool) (F G : Farm) (calls : List Call) (i : ℕ) (call : Call) (answered : Answered) → IsNext F G calls i call answered
    → so_far p F calls (i + 1) ≡ so_far p F calls i + cond (p answered) 1 0
one_more p F G calls i call answered turn =
    let e : so_far p F calls (i + 1) ≡ so_far p F calls i + (0 + cond (p answered) 1 0) =
    ap (count_by p) (answers_with F G calls i call answered turn) ∙ sum_by-append (λ a. cond (p a) 1 0) (answers_of F (take i calls)) (answered ∷ []) in
    omega (arith, e)

-- a call more is counted
counted_more : (F G : Farm) (calls : List Call) (i : ℕ) (call : Call) (answered : Answered) (accepted kept accepted' kept' : ℕ) → IsNext F G calls i call answered
    → accepted' ≡ accepted + cond (is_accepted answered) 1 0 → kept' ≡ kept + cond (is_kept answered) 1 0 → accepted' + kept' ≡ i + 1
    → accepted + kept ≡ i → IsCounted F calls accepted kept → IsCounted F calls accepted' kept'
counted_more F G calls i call answered accepted kept accepted' kept' turn one_accepted one_kept all done was = record {
  within = omega (arith, turn.low, all);
  accepted_are = one_accepted ∙ ap (λ n. n + cond (is_accepted answered) 1 0) (was.accepted_are ∙ ap (so_far is_accepted F calls) done)
      ∙ sym (one_more is_accepted F G calls i call answered turn) ∙ ap (so_far is_accepted F calls) (sym all);
  kept_are = one_kept ∙ ap (λ n. n + cond (is_kept answered) 1 0) (was.kept_are ∙ ap (so_far is_kept F calls) done)
      ∙ sym (one_more is_kept F G calls i call answered turn) ∙ ap (so_far is_kept F calls) (sym all);
}

-- the next call was accepted
pub counted_accepted : (F G : Farm) (calls : List Call) (i : ℕ) (call : Call) (reply : Reply) (accepted kept : ℕ) → IsNext F G calls i call (Changed reply)
    → accepted + kept ≡ i → IsCounted F calls accepted kept → IsCounted F calls (accepted + 1) kept
counted_accepted F G calls i call reply accepted kept turn done was =
    counted_more F G calls i call (Changed reply) accepted kept (accepted + 1) kept turn refl (omega arith) (omega (arith, done)) done was

-- or had been before
pub counted_kept : (F G : Farm) (calls : List Call) (i : ℕ) (call : Call) (reply : Reply) (accepted kept : ℕ) → IsNext F G calls i call (Repeated reply)
    → accepted + kept ≡ i → IsCounted F calls accepted kept → IsCounted F calls accepted (kept + 1)
counted_kept F G calls i call reply accepted kept turn done was =
    counted_more F G calls i call (Repeated reply) accepted kept accepted (kept + 1) turn (omega arith) refl (omega (arith, done)) done was

-- ---- how it ends

-- a call was refused
pub stopped_at : {S : Type 0} (g : Ghosts S) (old mid new : KeeperState S) (calls : List Call) (i done : ℕ) (call : Call) (code : ℕ)
    → IsNext old.farm.farm mid.farm.farm calls i call (Denied code) → done ≡ i
    → mid.is_open ≡ old.is_open → (KeepsOwnFarm g old → KeepsOwnFarm g mid) → new ≡ mid
    → IsStopped g old new calls done (done + 1) code
stopped_at g old mid new calls i done call code turn same opened keeps unchanged =
    subst (λ n. IsStopped g old new calls n (n + 1) code) (sym same) (record {
      next = refl;
      within = omega (arith, turn.low);
      refused = answers_with old.farm.farm mid.farm.farm calls i call (Denied code) turn;
      reaches = subst (λ k. Reaches g old k (take i calls)) (sym unchanged) (record { opened = opened; farm = turn.before; keeps = keeps });
    })

-- all calls were done
pub whole_at : {S : Type 0} (g : Ghosts S) (old new : KeeperState S) (calls : List Call) (i done : ℕ) → length calls ≤ i → done ≡ i → done ≤ length calls
    → new.is_open ≡ old.is_open → new.farm.farm ≡ run old.farm.farm (take i calls) → (KeepsOwnFarm g old → KeepsOwnFarm g new)
    → ImportsAll g old new calls done
whole_at g old new calls i done far same within opened farm keeps = record {
  all = omega (arith, far, same, within);
  reaches = record { opened = opened; farm = farm ∙ ap (run old.farm.farm) (take_all i calls far); keeps = keeps };
}

-- the keeper returned a fault at a call
pub faulted_at : {S : Type 0} (g : Ghosts S) (old mid new : KeeperState S) (calls : List Call) (i done : ℕ) (call : Call) (fault : KeepFault)
    → i < length calls → call ≡ get_or calls i call → mid.farm.farm ≡ run old.farm.farm (take i calls) → done ≡ i
    → mid.is_open ≡ old.is_open → (KeepsOwnFarm g old → KeepsOwnFarm g mid) → (old.is_open ≡ false → (i ≡ 0) × (mid ≡ old))
    → (acted fault ≡ Err KeepFault.NoMemory → (new.is_open ≡ false) × (new.conn ≡ mid.conn) × IsChange (answer mid.farm.farm call))
    → (acted fault ≡ Err KeepFault.Store → (new.is_open ≡ false) × IsChange (answer mid.farm.farm call)
    × (KeepsOwnFarm g mid → KeepsEither g new mid.farm.farm (step mid.farm.farm call)))
    → (acted fault ≡ Err KeepFault.Closed ↔ mid.is_open ≡ false)
    → (acted fault ≡ Err KeepFault.Closed → new ≡ mid)
    → IsActFault fault
    → EndsBy g old new calls done None (Some (DeskFault.Keep fault))
faulted_at g old mid new calls i done call KeepFault.NoMemory low here before same opened keeps still memory store closed unchanged other =
    let lacks = memory refl in
    subst (λ n. EndsBy g old new calls n None (Some (DeskFault.Keep KeepFault.NoMemory))) (sym same) (record {
      within = low;
      change = next_change old.farm.farm mid.farm.farm calls i call low here before lacks.2;
      is_closed = lacks.0;
      leaves = λ kept. subst (KeepsFarm g new) before (subst (λ c. KeepsFarm g (record { conn = c; farm = mid.farm; is_open = mid.is_open }) mid.farm.farm) (sym lacks.1) (keeps kept));
    })
faulted_at g old mid new calls i done call KeepFault.Store low here before same opened keeps still memory store closed unchanged other =
    let loses = store refl in
    subst (λ n. EndsBy g old new calls n None (Some (DeskFault.Keep KeepFault.Store))) (sym same) (record {
      within = low;
      change = next_change old.farm.farm mid.farm.farm calls i call low here before loses.1;
      is_closed = loses.0;
      leaves = λ kept. subst (λ H. KeepsEither g new (run old.farm.farm (take i calls)) H) (farm_after old.farm.farm mid.farm.farm calls i call low here before)
          (subst (λ H. KeepsEither g new H (step mid.farm.farm call)) before (loses.2 (keeps kept)));
    })
faulted_at g old mid new calls i done call KeepFault.Closed low here before same opened keeps still memory store closed unchanged other =
    let shut = sym opened ∙ closed.0 refl in
    let was = still shut in
    record { was_closed = shut; nothing = same ∙ was.0; unchanged = unchanged refl ∙ was.1 }
faulted_at g old mid new calls i done call fault low here before same opened keeps still memory store closed unchanged other = absurd other
