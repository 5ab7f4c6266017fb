-- What conversations do to the farm and its store, however they end.
use Rattle.std.proofs.Common.{◌≡◌, ◌⊎◌, ℕ, Bool, true, false, List, [], ◌∷◌, ◌++◌, refl, sym, ap, ◌∙◌, subst, inl, inr}
use Rattle.std.specs.Prelude.{Result, Ok, Err}
use Rattle.std.specs.Io.KnownBytes.{Appends}
use Rattle.farm_serve.proofs.Names.{Ask, Call, Denial, DeskFault, fold-append, Ghosts, IsChange, KeeperState, KeepFault, KeepsEither, KeepsFarm, KeepsOwnFarm}
use Rattle.farm_serve.proofs.Names.{Out, state}
use Rattle.farm_types.specs.Names.{answer, Farm, run, step}
use Rattle.farm_store.specs.Holds.{StandsFor}
use Rattle.farm_serve.specs.Names.{AsksCalls, call_asked, ClosedKeepsPrefix, Conversation, ConverseInTurn, Converses, Desk, DoesAsked, Encodes, IsCause}
use Rattle.farm_serve.specs.Names.{IsClosing, IsMachineAnswer, IsResponse, IsResponseTo, LeavesBy, LeavesOpen, OpenKeepsDone, Reaches, Receives}
use Rattle.farm_serve.specs.Names.{UnchangedOrDone}
use Rattle.farm_serve.proofs.ConversationLemmas.{HasResponse, has_response, reached, reaches_nothing, reaches_on}

-- ---- open or closed

pub both_ways : {A : Type 0} (b : Bool) → b ≡ true → b ≡ false → A
both_ways b opened closed = absurd (let same : true ≡ false = sym opened ∙ closed in cc)

-- the keeper stays as open as it was, or is closed
asked_closes : {S : Type 0} (g : Ghosts S) (old new : KeeperState S) (asked : Result Ask Denial) (bytes : List ℕ) (end : Result ℕ DeskFault)
    → IsResponseTo g old new asked bytes end → (new.is_open ≡ old.is_open) ⊎ (new.is_open ≡ false)
asked_closes g old new asked bytes (Ok status) response = inl (reached g old new asked bytes status response).reaches.opened
asked_closes g old new asked bytes (Err DeskFault.NoMemory) response = inl response.stays_open
asked_closes g old new (Ok what) bytes (Err (DeskFault.Keep fault)) response = inr response.is_closed
asked_closes g old new asked bytes end response = absurd response

response_closes : {S : Type 0} (g : Ghosts S) (old new : Desk S) (now : ℕ) (bytes : List ℕ) (end : Result ℕ DeskFault)
    → IsResponse g old.keeper new.keeper old.input new.input now bytes end → (new.keeper.is_open ≡ old.keeper.is_open) ⊎ (new.keeper.is_open ≡ false)
response_closes g old new now bytes end (inl response) = asked_closes g old.keeper new.keeper response.what bytes end response.response
response_closes g old new now bytes end (inr short) = inl (ap (λ k. k.is_open) short.unchanged)

still_closed : {S : Type 0} (g : Ghosts S) (old new : Desk S) (now : ℕ) (end : Result ℕ DeskFault)
    → Converses g old new now end → old.keeper.is_open ≡ false → new.keeper.is_open ≡ false
still_closed g old new now end h closed = by (has_response g old new now end h)
  where
    from : (new.keeper.is_open ≡ old.keeper.is_open) ⊎ (new.keeper.is_open ≡ false) → new.keeper.is_open ≡ false
    from (inl same) = same ∙ closed
    from (inr shut) = shut

    by : (new.keeper ≡ old.keeper) ⊎ HasResponse g old new now end → new.keeper.is_open ≡ false
    by (inl unchanged) = ap (λ k. k.is_open) unchanged ∙ closed
    by (inr l) = from (response_closes g old new now l.bytes l.response_end l.response)

-- a closed keeper stays closed over all of them
all_closed : {S : Type 0} (g : Ghosts S) (conversations : List Conversation) (old new : Desk S) → ConverseInTurn g conversations old new → old.keeper.is_open ≡ false → new.keeper.is_open ≡ false
all_closed g [] old new h closed = ap (λ desk. desk.keeper.is_open) h ∙ closed
all_closed g (conversation ∷ conversations) old new h closed =
    all_closed g conversations h.0 new h.2 (still_closed g old h.0 conversation.now conversation.end h.1 closed)

-- ---- a conversation that leaves the keeper open

-- the calls that were done, and what was asked
pub record IsPart {S : Type 0} (g : Ghosts S) (old new : Desk S) (now : ℕ) (end : Result ℕ DeskFault) : Type 0 where
  pub done : List Call
  pub does : DoesAsked old.input new.input now end done
  pub reaches : Reaches g old.keeper new.keeper done

nothing_done : {S : Type 0} (g : Ghosts S) (old new : Desk S) (now : ℕ) (fault : DeskFault) → new.keeper ≡ old.keeper → IsPart g old new now (Err fault)
nothing_done g old new now fault unchanged = record { done = []; does = inl refl; reaches = reaches_nothing g old.keeper new.keeper unchanged }

out_of_memory : {S : Type 0} (g : Ghosts S) (old new : Desk S) (now : ℕ) (fault : DeskFault) (asked : Result Ask Denial)
    → Receives old.input new.input now asked → new.keeper.is_open ≡ old.keeper.is_open → UnchangedOrDone g old.keeper new.keeper asked → IsPart g old new now (Err fault)
out_of_memory g old new now fault (Ok (Ask.Call call)) receives same (inl unchanged) = nothing_done g old new now fault unchanged
out_of_memory g old new now fault (Ok (Ask.Call call)) receives same (inr d) =
    record {
      done = call ∷ [];
      does = inr (record { asked = Ok (Ask.Call call); receives = receives; spelt = refl });
      reaches = record { opened = same; farm = d.farm; keeps = d.keeps };
    }
out_of_memory g old new now fault (Ok view) receives same unchanged = nothing_done g old new now fault unchanged
out_of_memory g old new now fault (Err why) receives same unchanged = nothing_done g old new now fault unchanged

asked_part : {S : Type 0} (g : Ghosts S) (old new : Desk S) (now : ℕ) (fault : DeskFault) (asked : Result Ask Denial) (bytes : List ℕ) (end : Result ℕ DeskFault)
    → new.keeper.is_open ≡ true → Receives old.input new.input now asked → IsResponseTo g old.keeper new.keeper asked bytes end → IsPart g old new now (Err fault)
asked_part g old new now fault asked bytes (Ok status) opened receives response =
    record {
      done = call_asked asked;
      does = inr (record { asked = asked; receives = receives; spelt = refl });
      reaches = (reached g old.keeper new.keeper asked bytes status response).reaches;
    }
asked_part g old new now fault asked bytes (Err DeskFault.NoMemory) opened receives response =
    out_of_memory g old new now fault asked receives response.stays_open response.farm
asked_part g old new now fault (Ok what) bytes (Err (DeskFault.Keep other)) opened receives response = both_ways new.keeper.is_open opened response.is_closed
asked_part g old new now fault asked bytes end opened receives response = absurd response

-- without an answer
pub lost_part : {S : Type 0} (g : Ghosts S) (old new : Desk S) (now : ℕ) (fault : DeskFault) → new.keeper.is_open ≡ true → Converses g old new now (Err fault) → IsPart g old new now (Err fault)
lost_part g old new now fault opened h = by (has_response g old new now (Err fault) h)
  where
    response_part : (bytes : List ℕ) (end : Result ℕ DeskFault) → IsResponse g old.keeper new.keeper old.input new.input now bytes end → IsPart g old new now (Err fault)
    response_part bytes end (inl response) = asked_part g old new now fault response.what bytes end opened response.receives response.response
    response_part bytes end (inr short) = nothing_done g old new now fault short.unchanged

    by : (new.keeper ≡ old.keeper) ⊎ HasResponse g old new now (Err fault) → IsPart g old new now (Err fault)
    by (inl unchanged) = nothing_done g old new now fault unchanged
    by (inr l) = response_part l.bytes l.response_end l.response

-- with one: what it is the answer to, and the machine's
pub record IsWholePart {S : Type 0} (g : Ghosts S) (old new : Desk S) (now status : ℕ) : Type 0 where
  pub asked : Result Ask Denial
  pub receives : Receives old.input new.input now asked
  pub out : Out
  pub machine : IsMachineAnswer old.keeper.farm.farm asked out
  pub bytes : List ℕ
  pub encodes : Encodes out bytes status
  pub written : Appends old.output new.output bytes
  pub reaches : Reaches g old.keeper new.keeper (call_asked asked)

pub whole_part : {S : Type 0} (g : Ghosts S) (old new : Desk S) (now status : ℕ) → Converses g old new now (Ok status) → IsWholePart g old new now status
whole_part g old new now status h = let a = h.answered tt in by a.bytes a.written a.response
  where
    by : (bytes : List ℕ) → Appends old.output new.output bytes → IsResponse g old.keeper new.keeper old.input new.input now bytes (Ok status) → IsWholePart g old new now status
    by bytes written (inl response) =
        let r = reached g old.keeper new.keeper response.what bytes status response.response in
        record {
          asked = response.what;
          receives = response.receives;
          out = r.out;
          machine = r.machine;
          bytes = bytes;
          encodes = r.encodes;
          written = written;
          reaches = r.reaches;
        }
    by bytes written (inr short) = absurd (let no = short.fault in cc)

part : {S : Type 0} (g : Ghosts S) (old new : Desk S) (now : ℕ) (end : Result ℕ DeskFault) → new.keeper.is_open ≡ true → Converses g old new now end → IsPart g old new now end
part g old new now (Ok status) opened h =
    let whole = whole_part g old new now status h in
    record { done = call_asked whole.asked; does = record { asked = whole.asked; receives = whole.receives; spelt = refl }; reaches = whole.reaches }
part g old new now (Err fault) opened h = lost_part g old new now fault opened h

leaves_open : {S : Type 0} (g : Ghosts S) (old new : Desk S) (conversation : Conversation) → new.keeper.is_open ≡ true → (p : IsPart g old new conversation.now conversation.end) → LeavesOpen g old new conversation p.done
leaves_open g old new conversation opened p =
    record { does = p.does; is_open = opened; farm = p.reaches.farm; keeps = p.reaches.keeps }

-- the end of a list is open only where each place before it is
was_open : {S : Type 0} (g : Ghosts S) (conversations : List Conversation) (next new : Desk S) → ConverseInTurn g conversations next new → new.keeper.is_open ≡ true → next.keeper.is_open ≡ true
was_open g conversations next new h opened = by next.keeper.is_open refl
  where
    by : (b : Bool) → next.keeper.is_open ≡ b → next.keeper.is_open ≡ true
    by true e = e
    by false e = both_ways new.keeper.is_open opened (all_closed g conversations next new h e)

pub open_keeps_done : {S : Type 0} (g : Ghosts S) → OpenKeepsDone g
open_keeps_done g [] old new opened still h =
    ([], (h, refl), reaches_nothing g old.keeper new.keeper (ap (λ desk. desk.keeper) h))
open_keeps_done g (conversation ∷ conversations) old new opened still h =
    let next_open = was_open g conversations h.0 new h.2 still in
    let p = part g old h.0 conversation.now conversation.end next_open h.1 in
    let others = open_keeps_done g conversations h.0 new next_open still h.2 in
    (p.done ++ others.0, (h.0, p.done, others.0, leaves_open g old h.0 conversation next_open p, others.1, refl), reaches_on g old.keeper h.0.keeper new.keeper p.done others.0 p.reaches others.2)

-- ---- a conversation that closes it

-- a change was not done, or perhaps done
pub record IsCut {S : Type 0} (g : Ghosts S) (old new : Desk S) (now : ℕ) (end : Result ℕ DeskFault) : Type 0 where
  pub call : Call
  pub asks : AsksCalls old.input new.input now (call ∷ [])
  pub change : IsChange (answer old.keeper.farm.farm call)
  pub closing : IsClosing end
  pub leaves : KeepsOwnFarm g old.keeper → LeavesBy g new.keeper end old.keeper.farm.farm (step old.keeper.farm.farm call)

-- a store that represents a farm leaves no other
keeps_either : {S : Type 0} (g : Ghosts S) (k : KeeperState S) (F G : Farm) → KeepsFarm g k F → KeepsEither g k F G
keeps_either g k F G keeps clean db may = inl ((keeps clean).left db may)

cut_by : {S : Type 0} (g : Ghosts S) (old new : Desk S) (now : ℕ) (end : Result ℕ DeskFault) (what : Ask) (fault : KeepFault)
    → old.keeper.is_open ≡ true → (end ≡ Err (DeskFault.Keep fault)) ⊎ (end ≡ Err DeskFault.Write) → Receives old.input new.input now (Ok what)
    → IsCause g old.keeper new.keeper what fault → IsCut g old new now end
cut_by g old new now end what KeepFault.Closed opened same receives cause = both_ways old.keeper.is_open opened cause.was_closed
cut_by g old new now end (Ask.Call call) KeepFault.NoMemory opened same receives cause =
    let kept : KeepsOwnFarm g old.keeper → KeepsFarm g new.keeper old.keeper.farm.farm =
    λ keeps. subst (λ conn. StandsFor (state g conn) old.keeper.farm.farm) (sym cause.store) keeps in
    record {
      call = call;
      asks = record { asked = Ok (Ask.Call call); receives = receives; spelt = refl };
      change = cause.change;
      closing = (elim same as (λ s. IsClosing end) [ inl e ↦ subst (λ r. IsClosing r) (sym e) tt | inr e ↦ subst (λ r. IsClosing r) (sym e) tt ]);
      leaves = λ keeps.
          (elim same as (λ s. LeavesBy g new.keeper end old.keeper.farm.farm (step old.keeper.farm.farm call)) [
            | inl e ↦ subst (λ r. LeavesBy g new.keeper r old.keeper.farm.farm (step old.keeper.farm.farm call)) (sym e) (kept keeps)
            | inr e ↦ subst (λ r. LeavesBy g new.keeper r old.keeper.farm.farm (step old.keeper.farm.farm call)) (sym e)
                (keeps_either g new.keeper old.keeper.farm.farm (step old.keeper.farm.farm call) (kept keeps))
          ]);
    }
cut_by g old new now end (Ask.Call call) KeepFault.Store opened same receives cause =
    record {
      call = call;
      asks = record { asked = Ok (Ask.Call call); receives = receives; spelt = refl };
      change = cause.change;
      closing = (elim same as (λ s. IsClosing end) [ inl e ↦ subst (λ r. IsClosing r) (sym e) tt | inr e ↦ subst (λ r. IsClosing r) (sym e) tt ]);
      leaves = λ keeps.
          (elim same as (λ s. LeavesBy g new.keeper end old.keeper.farm.farm (step old.keeper.farm.farm call)) [
            | inl e ↦ subst (λ r. LeavesBy g new.keeper r old.keeper.farm.farm (step old.keeper.farm.farm call)) (sym e) (cause.leaves keeps)
            | inr e ↦ subst (λ r. LeavesBy g new.keeper r old.keeper.farm.farm (step old.keeper.farm.farm call)) (sym e) (cause.leaves keeps)
          ]);
    }
cut_by g old new now end what fault opened same receives cause = absurd cause

asked_cut : {S : Type 0} (g : Ghosts S) (old new : Desk S) (now : ℕ) (end response_end : Result ℕ DeskFault) (asked : Result Ask Denial) (bytes : List ℕ)
    → old.keeper.is_open ≡ true → new.keeper.is_open ≡ false → (end ≡ response_end) ⊎ (end ≡ Err DeskFault.Write) → Receives old.input new.input now asked
    → IsResponseTo g old.keeper new.keeper asked bytes response_end → IsCut g old new now end
asked_cut g old new now end (Ok status) asked bytes opened closed same receives response =
    both_ways new.keeper.is_open ((reached g old.keeper new.keeper asked bytes status response).reaches.opened ∙ opened) closed
asked_cut g old new now end (Err DeskFault.NoMemory) asked bytes opened closed same receives response =
    both_ways new.keeper.is_open (response.stays_open ∙ opened) closed
asked_cut g old new now end (Err (DeskFault.Keep fault)) (Ok what) bytes opened closed same receives response = cut_by g old new now end what fault opened same receives response.cause
asked_cut g old new now end response_end asked bytes opened closed same receives response = absurd response

pub cut : {S : Type 0} (g : Ghosts S) (old new : Desk S) (now : ℕ) (end : Result ℕ DeskFault) → old.keeper.is_open ≡ true → new.keeper.is_open ≡ false → Converses g old new now end → IsCut g old new now end
cut g old new now end opened closed h = by (has_response g old new now end h)
  where
    shut : {A : Type 0} → new.keeper ≡ old.keeper → A
    shut unchanged = both_ways new.keeper.is_open (ap (λ k. k.is_open) unchanged ∙ opened) closed

    response_cut : (bytes : List ℕ) (response_end : Result ℕ DeskFault) → (end ≡ response_end) ⊎ (end ≡ Err DeskFault.Write)
        → IsResponse g old.keeper new.keeper old.input new.input now bytes response_end → IsCut g old new now end
    response_cut bytes response_end same (inl response) = asked_cut g old new now end response_end response.what bytes opened closed same response.receives response.response
    response_cut bytes response_end same (inr short) = shut short.unchanged

    by : (new.keeper ≡ old.keeper) ⊎ HasResponse g old new now end → IsCut g old new now end
    by (inl unchanged) = shut unchanged
    by (inr l) = response_cut l.bytes l.response_end l.same l.response

pub closed_keeps_prefix : {S : Type 0} (g : Ghosts S) → ClosedKeepsPrefix g
closed_keeps_prefix g conversations last old between new opened still closed h ends =
    let before = open_keeps_done g conversations old between opened still h in
    let c = cut g between new last.now last.end still closed ends in
    let farm = before.2.farm in
    let more : step between.keeper.farm.farm c.call ≡ run old.keeper.farm.farm (before.0 ++ c.call ∷ []) =
    ap (λ F. step F c.call) farm ∙ sym (fold-append step old.keeper.farm.farm before.0 (c.call ∷ [])) in (
      before.0,
      before.1,
      record {
        call = c.call;
        asks = c.asks;
        change = subst (λ F. IsChange (answer F c.call)) farm c.change;
        closing = c.closing;
        leaves = λ keeps.
            subst (λ G. LeavesBy g new.keeper last.end (run old.keeper.farm.farm before.0) G) more
            (subst (λ F. LeavesBy g new.keeper last.end F (step between.keeper.farm.farm c.call)) farm (c.leaves (before.2.keeps keeps)));
      },
    )
