-- Kept replies never leave the farm, and are given again.
use Rattle.std.proofs.Common.{◌≡◌, ℕ, ◌==◌, ◌&&◌, Bool, true, false, cond, List, [], ◌∷◌, ◌++◌, Option, Some, None, refl, sym, ap, ◌∙◌, subst, Equal}
use Rattle.std.specs.Prelude.{if◌then◌else◌, not, is_some}
use Rattle.std.specs.Bool.{then_some}
use Rattle.std.specs.List.{find}
use Rattle.std.specs.Option.{option_map_or, option_map, option_or}
use Rattle.std.specs.Ordering.{ordering_then}
use Rattle.std.specs.Str.{bytes_eq}
use Rattle.std.proofs.lemmas.Bool.{and_parts}
use Rattle.std.proofs.lemmas.Cmp.{tied_itself}
use Rattle.std.proofs.lemmas.List.Sums.{fold-append}
use Rattle.std.proofs.lemmas.Slice.Eq.{bytes_eq-Decides}
use Rattle.sqlite_value.proofs.KeyLemmas.{then_tied}
use Rattle.farm_types.specs.Names.{act, answer, answer_by, Answered, bad_moment, board_of, change, Changed, Denied, Done, done_with, early_refusal, expire}
use Rattle.farm_types.specs.Names.{Farm, farm_at_call, first_code, forbidden, giving_back, is_full, is_late, job_of, kept_cmp, kept_for, kept_of, key_reused}
use Rattle.farm_types.specs.Names.{kind_of, may_give, own_refusal, put_board, put_kept, refusal, Repeated, repeated_reply, run, step, step_by, text_cmp}
use Rattle.farm_types.specs.Names.{with_board}
use Rattle.farm_types.specs.declared.rows.BoardRow.{BoardRow}
use Rattle.farm_types.specs.declared.calls.Call.{Call}
use Rattle.farm_types.specs.declared.calls.Cmd.{Cmd}
use Rattle.farm_types.specs.declared.rows.KeptRow.{KeptRow}
use Rattle.farm_types.specs.declared.rows.Reply.{Reply}
use Rattle.farm_types.proofs.Put.{find_put_is}
use Rattle.farm_sound.proofs.Grow.{same_texts}
use Rattle.farm_sound.proofs.Numbers.{kept_total}
use Rattle.farm_sound.proofs.Replies.{pass_kept}
use Rattle.farm_keep.specs.Restarts.{answer_again}
use Rattle.farm_keep.proofs.RestartLemmas.{again_no_change}

-- ---- no command changes the kept replies

with_board_kept : (f : BoardRow → BoardRow) (F : Farm) (name : List ℕ) → (with_board f F (Some name)).kept ≡ F.kept
with_board_kept f F name = by (board_of F name)
  where
    by : (o : Option BoardRow) → (option_map_or (λ b. put_board F (f b)) o F).kept ≡ F.kept
    by None = refl
    by (Some b) = refl

done_kept : {X : Type 0} (F : Farm) (f : X → Done) → ((x : X) → (f x).farm.kept ≡ F.kept) → (o : Option X) → (option_map_or f o (done_with 0 F)).farm.kept ≡ F.kept
done_kept F f same None = refl
done_kept F f same (Some x) = same x

act_kept : (F : Farm) (caller : List ℕ) (cmd : Cmd) → (act F caller cmd).farm.kept ≡ F.kept
act_kept F caller (Cmd.AddType name check) = refl
act_kept F caller (Cmd.AddBoard name kind tags) = refl
act_kept F caller (Cmd.SetTags name tags) = with_board_kept _ F name
act_kept F caller (Cmd.SetHealth name health) = with_board_kept _ F name
act_kept F caller (Cmd.Submit priority wants roles body) = refl
act_kept F caller (Cmd.Cancel number) = done_kept F _ (λ j. refl) (job_of F number)
act_kept F caller (Cmd.Start number) = done_kept F _ (λ j. refl) (job_of F number)
act_kept F caller (Cmd.Finish number outcome) = done_kept F _ (λ j. refl) (job_of F number)
act_kept F caller (Cmd.Reserve priority tags) = refl
act_kept F caller (Cmd.Acquire number) = refl
act_kept F caller (Cmd.Release number) = refl
act_kept F caller (Cmd.Refresh number) = refl
act_kept F caller (Cmd.CancelRes number) = refl
act_kept F caller Cmd.Pass = pass_kept (expire (giving_back F) F.clock) F.collector F.clock

-- ---- the table of kept replies

abbrev is_for : List ℕ → List ℕ → KeptRow → Bool
is_for caller key r = bytes_eq r.caller caller && bytes_eq r.key key

tied_alike : (caller key : List ℕ) (row r : KeptRow) → kept_cmp row r ≡ Equal → is_for caller key row ≡ is_for caller key r
tied_alike caller key row r tie =
    let parts = then_tied (text_cmp row.caller r.caller) (text_cmp row.key r.key) tie in
    let callers = same_texts row.caller r.caller parts.0 in
    let keys = same_texts row.key r.key parts.1 in
    rw (callers, keys) refl

alike_tied : (caller key : List ℕ) (row r : KeptRow) → is_for caller key row ≡ true → is_for caller key r ≡ true → kept_cmp row r ≡ Equal
alike_tied caller key row r p q =
    let ps = and_parts (bytes_eq row.caller caller) (bytes_eq row.key key) p in
    let qs = and_parts (bytes_eq r.caller caller) (bytes_eq r.key key) q in
    let callers : row.caller ≡ r.caller = (bytes_eq-Decides row.caller caller).0 ps.0 ∙ sym ((bytes_eq-Decides r.caller caller).0 qs.0) in
    let keys : row.key ≡ r.key = (bytes_eq-Decides row.key key).0 ps.1 ∙ sym ((bytes_eq-Decides r.key key).0 qs.1) in
    subst (λ c. ordering_then (text_cmp row.caller c) (text_cmp row.key r.key) ≡ Equal) callers
    (subst (λ k. ordering_then (text_cmp row.caller row.caller) (text_cmp row.key k) ≡ Equal) keys (tied_itself kept_total row))

kept_put : (F : Farm) (row : KeptRow) (caller key : List ℕ) → kept_of (put_kept F row) caller key ≡ cond (is_for caller key row) (Some row) (kept_of F caller key)
kept_put F row caller key = find_put_is kept_cmp kept_total row (is_for caller key) (tied_alike caller key row) (alike_tied caller key row) F.kept

-- ---- a kept reply is answered again

abbrev says : KeptRow → Call → Answered
says row call = if is_late call then Denied bad_moment else (if row.kind == kind_of call.cmd then Repeated row.reply else Denied key_reused)

kept_is : (F : Farm) (call : Call) (key : List ℕ) (row : KeptRow) → call.key ≡ Some key → kept_of F call.caller key ≡ Some row → kept_for F call ≡ Some row
kept_is F call key row keyed is = ap (λ k. option_map_or (λ key. kept_of F call.caller key) k None) keyed ∙ is

answers_kept : (F : Farm) (call : Call) (row : KeptRow) → kept_for F call ≡ Some row → answer F call ≡ says row call
unfolding answer refusal early_refusal
answers_kept F call row is =
    let by_kept = λ (o : Option KeptRow). answer_by (cond (is_late call) None (cond (option_map_or (λ r. r.kind == kind_of call.cmd) o false) (option_map (λ r. r.reply) o) None))
    (option_or (first_code ((is_late call, bad_moment) ∷ (is_some o && not (option_map_or (λ r. r.kind == kind_of call.cmd) o false), key_reused) ∷ (not (may_give call.caller call.cmd), forbidden) ∷ []))
    (option_or (own_refusal F call) (then_some (is_full F call) 4)))
    (change F call).reply in
    ap by_kept is ∙ by (is_late call) (row.kind == kind_of call.cmd)
  where
    by : (late same : Bool) → answer_by (cond late None (cond same (Some row.reply) None))
        (option_or (first_code ((late, bad_moment) ∷ (not same, key_reused) ∷ (not (may_give call.caller call.cmd), forbidden) ∷ []))
        (option_or (own_refusal F call) (then_some (is_full F call) 4)))
        (change F call).reply ≡ cond late (Denied bad_moment) (cond same (Repeated row.reply) (Denied key_reused))
    by true same = refl
    by false true = refl
    by false false = refl

-- ---- what is kept after one call

abbrev kept_row : Call → List ℕ → Reply → KeptRow
kept_row call key reply = record { caller = call.caller; key = key; kind = kind_of call.cmd; reply = reply }

kept_changed : (F : Farm) (d : Call) (caller key : List ℕ) → kept_of (change F d).farm caller key
    ≡ option_map_or (λ k. cond (is_for caller key (kept_row d k (change F d).reply)) (Some (kept_row d k (change F d).reply)) (kept_of F caller key)) d.key (kept_of F caller key)
unfolding change
kept_changed F d caller key = by d.key
  where
    by : (o : Option (List ℕ)) → find (is_for caller key) (option_map_or (λ k. put_kept (act (farm_at_call F d) d.caller d.cmd).farm (kept_row d k (act (farm_at_call F d) d.caller d.cmd).reply)) o (act (farm_at_call F d) d.caller d.cmd).farm).kept
        ≡ option_map_or (λ k. cond (is_for caller key (kept_row d k (act (farm_at_call F d) d.caller d.cmd).reply)) (Some (kept_row d k (act (farm_at_call F d) d.caller d.cmd).reply)) (kept_of F caller key)) o (kept_of F caller key)
    by None = ap (find (is_for caller key)) (act_kept (farm_at_call F d) d.caller d.cmd)
    by (Some k) = kept_put (act (farm_at_call F d) d.caller d.cmd).farm (kept_row d k (act (farm_at_call F d) d.caller d.cmd).reply) caller key
        ∙ ap (λ rows. cond (is_for caller key (kept_row d k (act (farm_at_call F d) d.caller d.cmd).reply)) (Some (kept_row d k (act (farm_at_call F d) d.caller d.cmd).reply)) (find (is_for caller key) rows)) (act_kept (farm_at_call F d) d.caller d.cmd)

step_is : (F : Farm) (d : Call) (a : Answered) → answer F d ≡ a → step F d ≡ step_by a F (change F d).farm
unfolding step
step_is F d a e = ap (λ b. step_by b F (change F d).farm) e

changed_reply : (F : Farm) (d : Call) (r : Reply) → answer F d ≡ Changed r → (change F d).reply ≡ r
unfolding answer
changed_reply F d r = by (repeated_reply F d) (refusal F d)
  where
    by : (o : Option Reply) (p : Option ℕ) → answer_by o p (change F d).reply ≡ Changed r → (change F d).reply ≡ r
    by (Some k) p e = absurd (let no : Repeated k ≡ Changed r = e in cc)
    by None (Some code) e = absurd (let no : Denied code ≡ Changed r = e in cc)
    by None None e = let same : Changed (change F d).reply ≡ Changed r = e in cc

kept_stays_changed : (F : Farm) (d : Call) (r : Reply) (caller key : List ℕ) (row : KeptRow) → answer F d ≡ Changed r → kept_of F caller key ≡ Some row → kept_of (change F d).farm caller key ≡ Some row
kept_stays_changed F d r caller key row changed is = kept_changed F d caller key ∙ by d.key refl
  where
    other : (k : List ℕ) → d.key ≡ Some k → (b : Bool) → is_for caller key (kept_row d k (change F d).reply) ≡ b → cond b (Some (kept_row d k (change F d).reply)) (kept_of F caller key) ≡ Some row
    other k keyed true mine =
        let parts = and_parts (bytes_eq d.caller caller) (bytes_eq k key) mine in
        let callers = (bytes_eq-Decides d.caller caller).0 parts.0 in
        let keys = (bytes_eq-Decides k key).0 parts.1 in
        let kept : kept_of F d.caller k ≡ Some row = subst (λ c. kept_of F c k ≡ Some row) (sym callers) (subst (λ x. kept_of F caller x ≡ Some row) (sym keys) is) in
        absurd (again_no_change (is_late d) (row.kind == kind_of d.cmd) row.reply r (sym (answers_kept F d row (kept_is F d k row keyed kept)) ∙ changed))
    other k keyed false mine = is

    by : (o : Option (List ℕ)) → d.key ≡ o → option_map_or (λ k. cond (is_for caller key (kept_row d k (change F d).reply)) (Some (kept_row d k (change F d).reply)) (kept_of F caller key)) o (kept_of F caller key) ≡ Some row
    by None keyed = is
    by (Some k) keyed = other k keyed (is_for caller key (kept_row d k (change F d).reply)) refl

kept_stays : (F : Farm) (d : Call) (caller key : List ℕ) (row : KeptRow) → kept_of F caller key ≡ Some row → kept_of (step F d) caller key ≡ Some row
kept_stays F d caller key row is = by (answer F d) refl
  where
    by : (a : Answered) → answer F d ≡ a → kept_of (step F d) caller key ≡ Some row
    by (Changed r) e = subst (λ G. kept_of G caller key ≡ Some row) (sym (step_is F d (Changed r) e)) (kept_stays_changed F d r caller key row e is)
    by (Repeated r) e = subst (λ G. kept_of G caller key ≡ Some row) (sym (step_is F d (Repeated r) e)) is
    by (Denied code) e = subst (λ G. kept_of G caller key ≡ Some row) (sym (step_is F d (Denied code) e)) is

kept_after : (F : Farm) (d : Call) (key : List ℕ) (r : Reply) → d.key ≡ Some key → answer F d ≡ Changed r → kept_of (step F d) d.caller key ≡ Some (kept_row d key r)
kept_after F d key r keyed changed =
    let mine : is_for d.caller key (kept_row d key (change F d).reply) ≡ true = rw ((bytes_eq-Decides d.caller d.caller).1 refl, (bytes_eq-Decides key key).1 refl) refl in
    ap (λ G. kept_of G d.caller key) (step_is F d (Changed r) changed)
    ∙ kept_changed F d d.caller key
    ∙ ap (λ o. option_map_or (λ k. cond (is_for d.caller key (kept_row d k (change F d).reply)) (Some (kept_row d k (change F d).reply)) (kept_of F d.caller key)) o (kept_of F d.caller key)) keyed
    ∙ ap (λ b. cond b (Some (kept_row d key (change F d).reply)) (kept_of F d.caller key)) mine
    ∙ ap (λ reply. Some (kept_row d key reply)) (changed_reply F d r changed)

run_keeps : (F : Farm) (calls : List Call) (caller key : List ℕ) (row : KeptRow) → kept_of F caller key ≡ Some row → kept_of (run F calls) caller key ≡ Some row
run_keeps F [] caller key row is = is
run_keeps F (d ∷ calls) caller key row is = run_keeps (step F d) calls caller key row (kept_stays F d caller key row is)

pub again_kept : (F : Farm) (before between : List Call) (first call : Call) (key : List ℕ) (reply : Reply) → first.key ≡ Some key → call.key ≡ Some key → call.caller ≡ first.caller
    → answer (run F before) first ≡ Changed reply → answer (run F (before ++ first ∷ between)) call ≡ answer_again first reply call
again_kept F before between first call key reply keyed keyed_too same changed =
    let G = run F before in
    let H = run (step G first) between in
    let row = kept_row first key reply in
    let kept : kept_of H first.caller key ≡ Some row = run_keeps (step G first) between first.caller key row (kept_after G first key reply keyed changed) in
    let there : kept_of H call.caller key ≡ Some row = subst (λ c. kept_of H c key ≡ Some row) (sym same) kept in
    ap (λ K. answer K call) (fold-append step F before (first ∷ between)) ∙ answers_kept H call row (kept_is H call key row keyed_too there)
