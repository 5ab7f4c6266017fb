use Rattle.std.proofs.Common.{refl, vec_len, Some, Err, inl, inr, rules, arith, false, ◌+◌, ◌≡◌, ◌<◌, ◌++◌, ◌∷◌, [], map, take, length, get_or, sym, ap, ◌∙◌}
use Rattle.std.proofs.Common.{subst}
use Rattle.std.proofs.lemmas.List.{map-append, nil_from_length, take_all}
use Rattle.sqlite.specs.Held.{state}
use Rattle.farm_sound.proofs.Step.{IsSound-run}
use Rattle.farm_types.specs.Names.{answer, run, step}
use Rattle.farm_core.specs.Answers.{answer_of, IsChange}
use Rattle.farm_store.specs.Holds.{StandsFor}
use Rattle.farm_keep.specs.declared.fault.KeepFault.{KeepFault}
use Rattle.std.specs.Result.{result_err}
use Rattle.farm_keep.specs.Headline.{EndsClosed, Runs, IsNextChange}
use Rattle.farm_keep.specs.KeeperState.{KeeperState, KeepsOwnFarm, KeepsFarm, KeepsEither}
use Rattle.farm_keep.proofs.RunLemmas.{err_is, run_more, answers_more, next_change, step_more}
use Rattle.farm_keep.proofs.keeper.Keeper.run_into.Goals as goal

pub loop-call-preserved : goal.loop-call-preserved
loop-call-preserved g c =
    let calls = c.args.calls.now in
    let F = c.args.self.now.farm.farm in
    let i = c.loop-call.call-index in
    let low : i < length calls = omega arith in
    let call = c.call-item.result in
    let same : call ≡ get_or calls i call = c.call-item.is in
    let more = run_more F calls i call low in
    let said = answers_more F calls i call low in
    let was = c.loop-call.invariant in
    let did = c.in_ok-act.ensures in
    let stepped : c.act.new.self.farm.farm ≡ run F (take (i + 1) calls) =
    did.farm ∙ ap (λ G. step G call) was.farm ∙ ap (step (run F (take i calls))) same ∙ sym more in
    record {
      clean = omega (arith, c.act.ensures.clean);
      opened = did.opened.1 ∙ sym did.opened.0 ∙ was.opened;
      farm = stepped;
      answers = ap (map answer_of) c.push_reserved.ensures.items ∙ map-append answer_of c.loop-call.answers.items (c.in_ok-act.field-0 ∷ [])
          ∙ ap (λ l. map answer_of c.loop-call.answers.items ++ l ∷ []) (did.answer ∙ ap (λ G. answer G call) was.farm ∙ ap (answer (run F (take i calls))) same)
          ∙ ap (λ l. l ++ answer (run F (take i calls)) (get_or calls i call) ∷ []) was.answers ∙ sym said;
      len = c.push_reserved.ensures.len ∙ ap (λ n. n + 1) was.len;
      room = omega (arith, c.push_reserved.ensures.capacity);
      still = λ shut. absurd (let e = sym did.opened.0 ∙ was.opened ∙ shut in cc);
      stands = λ at. subst (KeepsFarm g.S.Store c.act.new.self) stepped (did.stands (subst (KeepsFarm g.S.Store c.loop-call.self) (sym was.farm) (was.stands at)));
    }

pub returns-then-is_err : goal.returns-then-is_err
returns-then-is_err g c =
    let F = c.args.self.now.farm.farm in
    let none : c.reserve_exact.new.self.items ≡ [] = c.reserve_exact.ensures.items ∙ c.requires.none in
    let counted : length c.reserve_exact.new.self.items ≡ vec_len c.reserve_exact.new.self = search rules in
    let zero : vec_len c.reserve_exact.new.self ≡ 0 = sym counted ∙ ap length none in
    record {
      counted = counted;
      within = omega (arith, zero);
      answers = rw (none, zero) refl;
      whole = search rules;
      farm = search rules;
      stands = search rules;
      memory = λ is. (refl, inl zero, λ keeps. rw zero (subst (λ h. KeepsFarm g.S.Store record c.args.self.now { conn = h } F) (ap (λ (k : KeeperState _). k.conn) (sym c.self.view_is)) keeps));
      store = λ is. absurd (let e = is in cc);
      closed = λ is. absurd (let e = is in cc);
      before = λ shut. (zero, search rules, refl, tt);
      faults = tt;
      left = rw zero (search rules);
      sound = λ opened n. IsSound-run (take n c.args.calls.now) F (c.requires.sound opened);
      clean = search rules;
    }

pub returns-in_err-act : goal.returns-in_err-act
returns-in_err-act g c =
    let calls = c.args.calls.now in
    let F = c.args.self.now.farm.farm in
    let i = c.loop-call.call-index in
    let was = c.loop-call.invariant in
    let low : i < length calls = omega arith in
    let call = c.call-item.result in
    let here : call ≡ get_or calls i call = c.call-item.is in
    let done : vec_len c.loop-call.answers ≡ i = was.len in
    let next : IsChange (answer c.loop-call.self.farm.farm call) → IsNextChange F calls (vec_len c.loop-call.answers) = λ change.
    subst (IsNextChange F calls) (sym done) (next_change F c.loop-call.self.farm.farm calls i call low here was.farm change) in
    let keeps_here : KeepsOwnFarm g.S.Store c.args.self.now → KeepsFarm g.S.Store c.loop-call.self (run F (take (vec_len c.loop-call.answers) calls)) = λ keeps.
    subst (λ n. KeepsFarm g.S.Store c.loop-call.self (run F (take n calls))) (sym done) (was.stands keeps) in
    let farm : c.loop-call.self.farm.farm ≡ run F (take (vec_len c.loop-call.answers) calls) = was.farm ∙ ap (λ n. run F (take n calls)) (sym done) in
    let stepped : step c.loop-call.self.farm.farm call ≡ run F (take ((vec_len c.loop-call.answers) + 1) calls) =
    step_more F c.loop-call.self.farm.farm calls i call low here was.farm ∙ ap (λ n. run F (take (n + 1) calls)) (sym done) in
    let reported = λ (fault : KeepFault) (is : Some c.in_err-act.field-0.0 ≡ Some fault). let same : c.in_err-act.field-0.0 ≡ fault = (let e = is in cc) in let t : c.act.result ≡ Err fault = c.in_err-act.was ∙ ap Err same in t in
    subst (λ r. Runs g.S.Store c.args.self.now c.act.new.self (record { done = vec_len c.loop-call.answers; answers = c.loop-call.answers; fault = result_err r }) calls)
    (sym (err_is c.from_residual.result c.in_err-act.field-0.0 c.from_residual.ensures.1))
    (record {
      counted = search rules;
      within = omega (arith, low, done);
      answers = rw done was.answers;
      whole = search rules;
      farm = search rules;
      stands = search rules;
      memory = λ is.
          let m = c.act.ensures.memory (reported KeepFault.NoMemory is) in
          (m.0, inr (next m.2), λ keeps. subst (λ h. StandsFor (state g.S.Store h) (run F (take (vec_len c.loop-call.answers) calls))) (sym m.1) (keeps_here keeps));
      store = λ is.
          let s = c.act.ensures.store (reported KeepFault.Store is) in (
            s.0,
            omega (arith, low, done),
            next s.1,
            λ keeps. subst (λ G. KeepsEither g.S.Store c.act.new.self (run F (take (vec_len c.loop-call.answers) calls)) G) stepped
                (subst (λ G. KeepsEither g.S.Store c.act.new.self G (step c.loop-call.self.farm.farm call)) farm (s.2 (subst (KeepsFarm g.S.Store c.loop-call.self) (sym farm) (keeps_here keeps)))),
          );
      closed = search rules;
      before = λ shut.
          let rest = was.still shut in
          let closed : c.loop-call.self.is_open ≡ false = ap (λ (k : KeeperState _). k.is_open) rest.1 ∙ shut in
          let same : c.in_err-act.field-0.0 ≡ KeepFault.Closed = (let e = sym c.in_err-act.was ∙ c.act.ensures.closed.1 closed in cc) in
          let kept = c.act.ensures.still (c.act.ensures.closed.1 closed) in (
            done ∙ rest.0,
            ap (λ (k : KeeperState _). k.conn) (kept ∙ rest.1),
            ap (λ (k : KeeperState _). k.is_open) kept ∙ closed,
            subst (λ f. EndsClosed (Some f) calls) (sym same) (omega (arith, low)),
          );
      faults = c.in_err-act.ensures.fault;
      left = search rules;
      sound = λ opened n. IsSound-run (take n calls) F (c.requires.sound opened);
      clean = search rules;
    })

pub returns : goal.returns
returns g c =
    let calls = c.args.calls.now in
    let F = c.args.self.now.farm.farm in
    let was = c.loop-call.invariant in
    let all : take c.loop-call.call-index calls ≡ calls = take_all c.loop-call.call-index calls (omega arith) in
    record {
      counted = search rules;
      within = search rules;
      answers = search rules;
      whole = search rules;
      farm = was.farm ∙ ap (run F) all;
      stands = λ keeps. subst (λ l. KeepsFarm g.S.Store c.loop-call.self (run F l)) all (was.stands keeps);
      memory = λ is. absurd (let e = is in cc);
      store = λ is. absurd (let e = is in cc);
      closed = λ is. absurd (let e = is in cc);
      before = λ shut.
          let rest = was.still shut in
          let none = rest.0 in (
            search rules,
            search rules,
            search rules,
            nil_from_length calls (omega (arith, none)),
          );
      faults = tt;
      left = search rules;
      sound = λ opened n. IsSound-run (take n calls) F (c.requires.sound opened);
      clean = search rules;
    }
