-- What a conversation makes of a keeper, and one connection after others.
use Rattle.std.proofs.Common.{◌≡◌, ◌≢◌, ◌≤◌, ◌+◌, ℕ, List, [], ◌∷◌, ◌++◌, true, refl, sym, ap, ◌∙◌, subst, arith, Ok, Err, inl, inr}
use Rattle.std.specs.Prelude.{Option, Result}
use Rattle.farm_serve.proofs.Names.{Ask, Call, Denial, DeskFault, fold-append, Ghosts, IsChange, KeeperState, KeepFault, KeepsFarm, KeepsOwnFarm, length-append}
use Rattle.farm_types.specs.Names.{answer, Farm, run, step}
use Rattle.farm_serve.specs.Names.{Answers, Closes, IsResponse, IsResponseTo, LeavesAfter, PassesOn, ServesClients, ServesUntil, ServingCloses, UnchangedOrDone}
use Rattle.farm_serve.specs.Names.{WritesAnswer}

-- ---- one connection

-- nothing is done
pub serves_none : {S : Type 0} (g : Ghosts S) (k : KeeperState S) (max : ℕ) → k.is_open ≡ true → ServesClients g k k max
serves_none g k max opened = record {
  was_open = opened;
  calls = [];
  few = omega arith;
  reaches = record { opened = refl; farm = refl; keeps = λ keeps. keeps };
}

unchanged : {S : Type 0} (g : Ghosts S) (old new : KeeperState S) (max : ℕ) → old.is_open ≡ true → new ≡ old → ServesClients g old new max
unchanged g old new max opened same = subst (λ k. ServesClients g old k max) (sym same) (serves_none g old max opened)

-- a call is done
serves_call : {S : Type 0} (g : Ghosts S) (old new : KeeperState S) (call : Call) → old.is_open ≡ true → new.is_open ≡ old.is_open
    → new.farm.farm ≡ step old.farm.farm call → (KeepsOwnFarm g old → KeepsOwnFarm g new) → ServesClients g old new 1
serves_call g old new call opened stays farm keeps = record {
  was_open = opened;
  calls = call ∷ [];
  few = omega arith;
  reaches = record { opened = stays; farm = farm; keeps = keeps };
}

answered : {S : Type 0} (g : Ghosts S) (old new : KeeperState S) (what : Result Ask Denial) (bytes : List ℕ) (status : ℕ)
    → old.is_open ≡ true → Answers g old new what bytes status → ServesClients g old new 1
answered g old new (Err why) bytes status opened response = unchanged g old new 1 opened response.unchanged
answered g old new (Ok (Ask.Call call)) bytes status opened response =
    serves_call g old new call opened (response.stays_open ∙ sym response.was_open) response.farm response.keeps
answered g old new (Ok (Ask.View view)) bytes status opened response = unchanged g old new 1 opened response.unchanged

ran_out : {S : Type 0} (g : Ghosts S) (old new : KeeperState S) (what : Result Ask Denial)
    → old.is_open ≡ true → new.is_open ≡ old.is_open → UnchangedOrDone g old new what → ServesClients g old new 1
ran_out g old new (Ok (Ask.Call call)) opened stays (inl same) = unchanged g old new 1 opened same
ran_out g old new (Ok (Ask.Call call)) opened stays (inr done) = serves_call g old new call opened stays done.farm done.keeps
ran_out g old new what opened stays same = unchanged g old new 1 opened same

-- the keeper's fault closes it
closed : {S : Type 0} (A : Type 0) (g : Ghosts S) (old new : KeeperState S) (what : Ask) (fault : KeepFault) (bytes : List ℕ)
    → Closes g old new what fault bytes → ServesUntil {A = A} g old new 1 (Err (DeskFault.Keep fault))
closed A g old new what KeepFault.Closed bytes response = response.cause
closed A g old new (Ask.Call call) KeepFault.NoMemory bytes response = record {
  was_open = response.cause.was_open;
  is_closed = response.is_closed;
  calls = [];
  call = call;
  few = omega arith;
  change = response.cause.change;
  leaves = λ keeps. subst (λ c. KeepsFarm g (record { conn = c; farm = old.farm; is_open = old.is_open }) old.farm.farm) (sym response.cause.store) keeps;
}
closed A g old new (Ask.Call call) KeepFault.Store bytes response = record {
  was_open = response.cause.was_open;
  is_closed = response.is_closed;
  calls = [];
  call = call;
  few = omega arith;
  change = response.cause.change;
  leaves = response.cause.leaves;
}
closed A g old new what fault bytes response = absurd response.cause

asked : {S A : Type 0} (g : Ghosts S) (old new : KeeperState S) (what : Result Ask Denial) (bytes : List ℕ) (end : Result ℕ DeskFault) (writes : Result A DeskFault)
    → old.is_open ≡ true → PassesOn end writes → IsResponseTo g old new what bytes end → ServesUntil g old new 1 writes
asked g old new what bytes (Ok status) (Ok done) opened passes response = answered g old new what bytes status opened response
asked g old new what bytes (Ok status) (Err fault) opened passes response = absurd passes
asked g old new what bytes (Err DeskFault.NoMemory) (Ok done) opened passes response = ran_out g old new what opened response.stays_open response.farm
asked g old new what bytes (Err DeskFault.NoMemory) (Err fault) opened passes response = absurd passes
asked {A = A} g old new (Ok what) bytes (Err (DeskFault.Keep fault)) writes opened passes response =
    subst (ServesUntil g old new 1) (sym passes) (closed A g old new what fault bytes response)
asked g old new what bytes end writes opened passes response = absurd response

not_understood : {S A : Type 0} (g : Ghosts S) (old new : KeeperState S) (end : Result ℕ DeskFault) (writes : Result A DeskFault)
    → old.is_open ≡ true → PassesOn end writes → end ≡ Err DeskFault.NoMemory → new ≡ old → ServesUntil g old new 1 writes
not_understood g old new end (Ok done) opened passes short same = unchanged g old new 1 opened same
not_understood {A = A} g old new end (Err fault) opened passes short same =
    absurd (subst (λ e. PassesOn {A = A} e (Err fault)) short passes)

response_serves : {S A : Type 0} (g : Ghosts S) (old new : KeeperState S) (input rest : Option (List ℕ)) (now : ℕ) (bytes : List ℕ) (end : Result ℕ DeskFault) (writes : Result A DeskFault)
    → old.is_open ≡ true → PassesOn end writes → IsResponse g old new input rest now bytes end → ServesUntil g old new 1 writes
response_serves g old new input rest now bytes end writes opened passes (inl response) = asked g old new response.what bytes end writes opened passes response.response
response_serves g old new input rest now bytes end writes opened passes (inr short) = not_understood g old new end writes opened passes short.fault short.unchanged

-- a conversation, by its end
pub conversation_serves : {S A : Type 0} (g : Ghosts S) (old new : KeeperState S) (input rest : Option (List ℕ)) (now : ℕ) (Room : ℕ → Type 0) (failed : _) (held holds : Option (List ℕ))
    (end : Result ℕ DeskFault) (writes : Result A DeskFault)
    → old.is_open ≡ true → PassesOn end writes
    → (end ≢ Err DeskFault.Read → WritesAnswer (IsResponse g old new input rest now) Room failed held holds end)
    → (end ≡ Err DeskFault.Read → new ≡ old)
    → ServesUntil g old new 1 writes
conversation_serves g old new input rest now Room failed held holds (Err DeskFault.Read) (Ok done) opened passes prints unread =
    unchanged g old new 1 opened (unread refl)
conversation_serves g old new input rest now Room failed held holds (Err DeskFault.Read) (Err fault) opened passes prints unread = absurd passes
conversation_serves g old new input rest now Room failed held holds end writes opened passes prints unread =
    let t = prints (λ e. cc) in response_serves g old new input rest now t.bytes end writes opened passes t.response

-- ---- one connection after others

run_on : (F G : Farm) (before calls : List Call) → G ≡ run F before → run G calls ≡ run F (before ++ calls)
run_on F G before calls farm = ap (λ H. run H calls) farm ∙ sym (fold-append step F before calls)

closes_on : {S : Type 0} (g : Ghosts S) (old mid new : KeeperState S) (n : ℕ) (fault : KeepFault)
    → ServesClients g old mid n → ServingCloses g mid new 1 fault → ServingCloses g old new (n + 1) fault
closes_on g old mid new n fault first last =
    let same = run_on old.farm.farm mid.farm.farm first.calls last.calls first.reaches.farm in
    record {
      was_open = first.was_open;
      is_closed = last.is_closed;
      calls = first.calls ++ last.calls;
      call = last.call;
      few = omega (arith, first.few, last.few, length-append first.calls last.calls);
      change = subst (λ F. IsChange (answer F last.call)) same last.change;
      leaves = λ keeps. subst (λ F. LeavesAfter g new fault F (step F last.call)) same (last.leaves (first.reaches.keeps keeps));
    }

-- one more connection is served
pub serves_next : {S A : Type 0} (g : Ghosts S) (old mid new : KeeperState S) (n : ℕ) (end : Result A DeskFault)
    → ServesClients g old mid n → ServesUntil g mid new 1 end → ServesUntil g old new (n + 1) end
serves_next g old mid new n (Ok done) first last = record {
  was_open = first.was_open;
  calls = first.calls ++ last.calls;
  few = omega (arith, first.few, last.few, length-append first.calls last.calls);
  reaches = record {
    opened = last.reaches.opened ∙ first.reaches.opened;
    farm = last.reaches.farm ∙ run_on old.farm.farm mid.farm.farm first.calls last.calls first.reaches.farm;
    keeps = λ keeps. last.reaches.keeps (first.reaches.keeps keeps);
  };
}
serves_next g old mid new n (Err (DeskFault.Keep KeepFault.NoMemory)) first last = closes_on g old mid new n KeepFault.NoMemory first last
serves_next g old mid new n (Err (DeskFault.Keep KeepFault.Store)) first last = closes_on g old mid new n KeepFault.Store first last
serves_next g old mid new n (Err (DeskFault.Keep KeepFault.Closed)) first last =
    absurd (let e = sym last.was_closed ∙ first.reaches.opened ∙ first.was_open in cc)
serves_next g old mid new n end first last = absurd last

closes_within : {S : Type 0} (g : Ghosts S) (old new : KeeperState S) (n max : ℕ) (fault : KeepFault) → n ≤ max
    → ServingCloses g old new n fault → ServingCloses g old new max fault
closes_within g old new n max fault less closes = record {
  was_open = closes.was_open;
  is_closed = closes.is_closed;
  calls = closes.calls;
  call = closes.call;
  few = omega (arith, less, closes.few);
  change = closes.change;
  leaves = closes.leaves;
}

-- more connections might have been served
pub serves_within : {S A : Type 0} (g : Ghosts S) (old new : KeeperState S) (n max : ℕ) (end : Result A DeskFault) → n ≤ max
    → ServesUntil g old new n end → ServesUntil g old new max end
serves_within g old new n max (Ok done) less serves =
    record { was_open = serves.was_open; calls = serves.calls; few = omega (arith, less, serves.few); reaches = serves.reaches }
serves_within g old new n max (Err (DeskFault.Keep KeepFault.NoMemory)) less serves = closes_within g old new n max KeepFault.NoMemory less serves
serves_within g old new n max (Err (DeskFault.Keep KeepFault.Store)) less serves = closes_within g old new n max KeepFault.Store less serves
serves_within g old new n max (Err (DeskFault.Keep KeepFault.Closed)) less serves = serves
serves_within g old new n max end less serves = absurd serves
