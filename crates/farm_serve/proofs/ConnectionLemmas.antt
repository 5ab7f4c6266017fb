-- Conversations with one client after another.
use Rattle.std.proofs.Common.{◌≡◌, ◌≢◌, ◌≤◌, ◌+◌, ◌⊎◌, ℕ, List, [], ◌∷◌, ◌++◌, Bool, true, false, length, map, refl, sym, ap, subst, ◌∙◌, arith, Some, None, IsSome}
use Rattle.std.proofs.Common.{Err, inl, inr}
use Rattle.std.specs.Prelude.{Option, Result}
use Rattle.farm_serve.proofs.Names.{append_assoc, DeskFault, Ghosts, KeeperState, length-append}
use Rattle.std.proofs.lemmas.List.{append-nil, map-append}
use Rattle.farm_serve.specs.Names.{Accepts, AreOf, AreServedInTurn, Arrival, Arrives, ClientList, Connection, ConversesOnce, Departs, Departure, Desk, desk}
use Rattle.farm_serve.specs.Names.{HasRoom, IsComplete, IsOver, IsResponse, IsUnread, ServesInTurn, WritesAnswer}
use Rattle.farm_serve.proofs.ConverseLemmas.{no_room_within, written_in_part, written_too_long, written_whole}

-- ---- one conversation

-- no answer that is due ends it as unwritten
never_response : {S : Type 0} (g : Ghosts S) (old new : KeeperState S) (input rest : Option (List ℕ)) (now : ℕ) (bytes : List ℕ)
    → ¬ IsResponse g old new input rest now bytes (Err DeskFault.Write)
never_response g old new input rest now bytes (inl response) = response.response
never_response g old new input rest now bytes (inr short) = let e = short.fault in cc

-- a conversation ends as its answer ends it, and where the writer failed as unwritten
pub converses_once : {S : Type 0} (g : Ghosts S) (old new : Desk S) (now : ℕ) (Sure : Type 0) (Room : ℕ → Type 0) (failed : Bool) (end : Result ℕ DeskFault)
    → (end ≢ Err DeskFault.Read → WritesAnswer (IsResponse g old.keeper new.keeper old.input new.input now) Room failed old.output new.output end)
    → (end ≡ Err DeskFault.Read → IsUnread old.keeper new.keeper old.output new.output) → (end ≡ Err DeskFault.Read → failed ≡ false)
    → (Sure → end ≢ Err DeskFault.Read)
    → ConversesOnce g old new now Sure Room
converses_once g old new now Sure Room true end writes unread alive received = record {
  end = Err DeskFault.Write;
  converses = record {
    answered = λ t. absurd t;
    unwritten = λ _. written_in_part (IsResponse g old.keeper new.keeper old.input new.input now) Room true old.output new.output end writes alive refl;
    unread = λ e. absurd (cc);
  };
  complete = record {
    received = λ sure e. cc;
    answered = λ _. written_too_long (IsResponse g old.keeper new.keeper old.input new.input now) Room true old.output new.output end writes alive refl;
  };
}
converses_once g old new now Sure Room false end writes unread alive received = record {
  end = end;
  converses = record {
    answered = written_whole (IsResponse g old.keeper new.keeper old.input new.input now) Room false old.output new.output end writes refl;
    unwritten = λ e. absurd (not_unwritten e);
    unread = unread;
  };
  complete = record { received = received; answered = λ e. absurd (not_unwritten e) };
}
  where
    not_unwritten : end ≢ Err DeskFault.Write
    not_unwritten e =
        let t = writes (λ r. cc) in
        never_response g old.keeper new.keeper old.input new.input now t.bytes
        (subst (λ x. IsResponse g old.keeper new.keeper old.input new.input now t.bytes x) e t.response)

-- ---- one client

of_none : (known : Option ClientList) → AreOf known known []
of_none None = refl
of_none (Some clients) = (refl, sym (append-nil clients.served))

-- before anybody arrives
pub connections_begin : {S : Type 0} (g : Ghosts S) (Sure : Type 0) (known : Option ClientList) (k : KeeperState S) (Whole : Type 0) → ServesInTurn g Sure known known k k 0 Whole
connections_begin g Sure known k Whole = record {
  connections = [];
  few = omega arith;
  in_turn = refl;
  clients = of_none known;
  all = λ _. inl refl;
}

of_one : (before mid after : Option ClientList) (connection : Connection) → Arrives before mid connection.arrival → Departs mid after connection.departure → AreOf before after (connection ∷ [])
of_one None mid after connection arrives departs = subst (λ m. Departs m after connection.departure) arrives departs
of_one (Some before) None after connection arrives departs = absurd arrives
of_one (Some before) (Some mid) None connection arrives departs = absurd departs
of_one (Some before) (Some mid) (Some after) connection arrives departs =
    (arrives.0 ∙ ap (λ cs. connection.arrival ∷ cs) (sym departs.0), departs.1 ∙ ap (λ gs. gs ++ connection.departure ∷ []) arrives.1)

-- one arrives, and departs once it was conversed with
pub connections_one : {S : Type 0} (g : Ghosts S) (Sure : Type 0) (before mid after : Option ClientList) (old new : KeeperState S) (now : ℕ) (input output : Option (List ℕ))
    (Room : ℕ → Type 0) (departure : Departure) (Whole : Type 0)
    → old.is_open ≡ true → (Sure → IsSome input) → Accepts before mid now input output Room → Departs mid after departure
    → ConversesOnce g (desk old input output) (desk new departure.input departure.output) now Sure Room
    → ServesInTurn g Sure before after old new 1 Whole
connections_one g Sure before mid after old new now input output Room departure Whole opened heard accepts departs conversation =
    let arrival : Arrival = record { now = now; input = input; output = output; capacity = accepts.capacity } in
    let connection : Connection = record { arrival = arrival; departure = departure; end = conversation.end } in
    let complete : IsComplete g (desk old input output) (desk new departure.input departure.output) now Sure (HasRoom accepts.capacity output) conversation.end = record {
      received = conversation.complete.received;
      answered = λ e. no_room_within _ (HasRoom accepts.capacity output) Room accepts.has_room (conversation.complete.answered e);
    } in
    record {
      connections = connection ∷ [];
      few = omega arith;
      in_turn = (new, record { was_open = opened; heard = heard; converses = conversation.converses; complete = complete }, refl);
      clients = of_one before mid after connection accepts.arrives departs;
      all = λ _. inl refl;
    }

-- ---- one client after others

turns_join : {S : Type 0} (g : Ghosts S) (Sure : Type 0) (first more : List Connection) (old mid new : KeeperState S)
    → AreServedInTurn g Sure first old mid → AreServedInTurn g Sure more mid new → AreServedInTurn g Sure (first ++ more) old new
turns_join g Sure [] more old mid new first then = subst (λ k. AreServedInTurn g Sure more k new) first then
turns_join g Sure (connection ∷ connections) more old mid new first then = (first.0, first.1, turns_join g Sure connections more first.0 mid new first.2 then)

of_joined : (before mid after : Option ClientList) (first more : List Connection) → AreOf before mid first → AreOf mid after more → AreOf before after (first ++ more)
of_joined None mid after first more here there = subst (λ m. AreOf m after more) here there
of_joined (Some before) None after first more here there = absurd here
of_joined (Some before) (Some mid) None first more here there = absurd there
of_joined (Some before) (Some mid) (Some after) first more here there = (
  here.0 ∙ ap (λ cs. map (λ v. v.arrival) first ++ cs) there.0 ∙ sym (append_assoc (map (λ v. v.arrival) first) (map (λ v. v.arrival) more) after.waiting)
      ∙ ap (λ cs. cs ++ after.waiting) (sym (map-append (λ v. v.arrival) first more)),
  there.1 ∙ ap (λ gs. gs ++ map (λ v. v.departure) more) here.1 ∙ append_assoc before.served (map (λ v. v.departure) first) (map (λ v. v.departure) more)
      ∙ ap (λ gs. before.served ++ gs) (sym (map-append (λ v. v.departure) first more)),
)

last_empty : {A : Type 0} (xs ys : List A) → [] ≡ xs ++ ys → ys ≡ []
last_empty [] ys e = sym e
last_empty (x ∷ xs) ys e = absurd (cc)

still_over : (mid after : Option ClientList) (more : List Connection) → AreOf mid after more → IsOver mid → IsOver after
still_over None after more there over = subst IsOver (sym there) over
still_over (Some mid) None more there over = absurd there
still_over (Some mid) (Some after) more there over = last_empty (map (λ v. v.arrival) more) after.waiting (sym over ∙ there.0)

-- so many were served, and then one more
pub connections_next : {S : Type 0} (g : Ghosts S) (Sure : Type 0) (before mid after : Option ClientList) (old between new : KeeperState S) (n : ℕ) (Last Whole : Type 0)
    → (Whole → Last) → ServesInTurn g Sure before mid old between n (Unit {0}) → ServesInTurn g Sure mid after between new 1 Last
    → ServesInTurn g Sure before after old new (n + 1) Whole
connections_next g Sure before mid after old between new n Last Whole from first last = record {
  connections = first.connections ++ last.connections;
  few = omega (arith, first.few, last.few, length-append first.connections last.connections);
  in_turn = turns_join g Sure first.connections last.connections old between new first.in_turn last.in_turn;
  clients = of_joined before mid after first.connections last.connections first.clients last.clients;
  all = λ whole. joined (first.all tt) (last.all (from whole));
}
  where
    joined : (length first.connections ≡ n) ⊎ IsOver mid → (length last.connections ≡ 1) ⊎ IsOver after
        → (length (first.connections ++ last.connections) ≡ n + 1) ⊎ IsOver after
    joined here (inr over) = inr over
    joined (inr over) (inl one) = inr (still_over mid after last.connections last.clients over)
    joined (inl many) (inl one) = inl (omega (arith, many, one, length-append first.connections last.connections))

-- where a fault ends it, more might have been served
pub connections_within : {S : Type 0} (g : Ghosts S) (Sure : Type 0) (before after : Option ClientList) (old new : KeeperState S) (n max : ℕ) (Whole : Type 0)
    → n ≤ max → ¬ Whole → ServesInTurn g Sure before after old new n ⊥ → ServesInTurn g Sure before after old new max Whole
connections_within g Sure before after old new n max Whole less fails serves = record {
  connections = serves.connections;
  few = omega (arith, less, serves.few);
  in_turn = serves.in_turn;
  clients = serves.clients;
  all = λ whole. absurd (fails whole);
}
