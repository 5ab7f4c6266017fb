-- Lists of calls, each done as far as it came before the desk stopped, one after another.
use Rattle.std.specs.Prelude.{◌≡◌, ◌==◌, ℕ, List, ◌∷◌, ◌++◌, Some, take, if◌then◌else◌}
use Rattle.std.specs.List.{fold, flat_map}
use Rattle.farm_types.specs.Names.{answer, Answered, bad_moment, Changed, Denied, Farm, is_late, key_reused, kind_of, Repeated, run}
use Rattle.farm_types.specs.declared.calls.Call.{Call}
use Rattle.farm_types.specs.declared.rows.Reply.{Reply}

-- a list of calls, and how many of them were done when the desk stopped
pub record Restart : Type 0 where
  pub calls : List Call
  pub done : ℕ

abbrev pub done_calls : Restart → List Call
done_calls restart = take restart.done restart.calls

-- the farm that is found after all restarts, and the one list of the calls that were done
abbrev pub run_all : Farm → List Restart → Farm
run_all F restarts = fold (λ G restart. run G (done_calls restart)) F restarts

abbrev pub calls_of_restarts : List Restart → List Call
calls_of_restarts restarts = flat_map done_calls restarts

-- what a call is answered whose caller and key were those of an accepted call with this reply
abbrev pub answer_again : Call → Reply → Call → Answered
answer_again first reply call =
    if is_late call then Denied bad_moment
    else (if kind_of first.cmd == kind_of call.cmd then Repeated reply else Denied key_reused)

-- two calls under one key of one caller, one after the other somewhere in the joined list, of which
-- the first is accepted
pub record IsRepeated (F : Farm) (restarts : List Restart) (before between after : List Call)
    (first call : Call) (key : List ℕ) (reply : Reply) : Type 0 where
  pub in_list : calls_of_restarts restarts ≡ before ++ first ∷ (between ++ call ∷ after)
  pub keyed : first.key ≡ Some key
  pub same_key : call.key ≡ Some key
  pub same_caller : call.caller ≡ first.caller
  pub accepted : answer (run F before) first ≡ Changed reply

-- the second gets the kept reply, or is refused for its key or its moment
abbrev pub AnswersAgain : Type 0
AnswersAgain = (F : Farm) (restarts : List Restart) (before between after : List Call)
    (first call : Call) (key : List ℕ) (reply : Reply)
    → IsRepeated F restarts before between after first call key reply
    → answer (run F (before ++ first ∷ between)) call ≡ answer_again first reply call

-- and so it changes nothing
abbrev pub ActsOnce : Type 0
ActsOnce = (F : Farm) (restarts : List Restart) (before between after : List Call)
    (first call : Call) (key : List ℕ) (reply other : Reply)
    → IsRepeated F restarts before between after first call key reply
    → answer (run F (before ++ first ∷ between)) call ≡ Changed other → ⊥
