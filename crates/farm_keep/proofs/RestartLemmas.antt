-- Runs and restarts one after another.
use Rattle.std.proofs.Common.{◌≡◌, Bool, true, false, cond, List, [], ◌∷◌, ◌++◌, refl, sym, ap, ◌∙◌}
use Rattle.std.proofs.lemmas.List.Sums.{fold-append}
use Rattle.farm_types.specs.Names.{answer, bad_moment, Changed, Denied, Farm, key_reused, Repeated, run, step}
use Rattle.farm_types.specs.declared.calls.Call.{Call}
use Rattle.farm_types.specs.declared.rows.Reply.{Reply}
use Rattle.farm_keep.specs.Headline.{answers_of}
use Rattle.farm_keep.specs.Restarts.{Restart, done_calls, run_all, calls_of_restarts}

pub answers_of-append : (F : Farm) (first second : List Call) → answers_of F (first ++ second) ≡ answers_of F first ++ answers_of (run F first) second
answers_of-append F [] second = refl
answers_of-append F (call ∷ first) second = ap (λ l. answer F call ∷ l) (answers_of-append (step F call) first second)

pub run_all-joined : (F : Farm) (restarts : List Restart) → run_all F restarts ≡ run F (calls_of_restarts restarts)
run_all-joined F [] = refl
run_all-joined F (restart ∷ restarts) =
    run_all-joined (run F (done_calls restart)) restarts ∙ sym (fold-append step F (done_calls restart) (calls_of_restarts restarts))

-- what is answered again is no change
pub again_no_change : (late same : Bool) (reply other : Reply) → cond late (Denied bad_moment) (cond same (Repeated reply) (Denied key_reused)) ≡ Changed other → ⊥
again_no_change true same reply other e = cc
again_no_change false true reply other e = cc
again_no_change false false reply other e = cc
