-- A query that only reads, whatever the schema is.
use native.Mathlib.Omega.{arith}
use Rattle.std.proofs.Common.{[], refl, inl, inr, ◌≡◌, ◌+◌, ℕ, false, List, Option, Some, None, Result, Ok, Err, IsSome, is_ok, sym}
use Rattle.std.proofs.Common.{ap, subst, ◌∙◌}
use Rattle.sqlite.specs.Clock.{timed as with_time}
use Rattle.farm_store.proofs.Names.{Held, OnlyReads, Reads, ReadsFirst, ReturnsFirstRows, ReturnsRows, Row, state, Trees}
use Rattle.sqlite.specs.Given.{HasBegun, HasGiven, Returns}
use Rattle.sqlite.specs.Listing.{understood, if_select, listing_schema, IsSourceOf}
use Rattle.sqlite.specs.Schema.{Schema}
use Rattle.sqlite.specs.State.{State, Begins, CommitsShowing, IsUnchanged, Shown, ShowsRows}
use Rattle.sqlite_tied.specs.Compute.{everything}
use Rattle.sqlite_trees.specs.declared.store.Store.{Ghosts}
use Rattle.sqlite_schema.specs.declared.command.Command.{Command}
use Rattle.sqlite_schema.specs.declared.command.Returning.{Returning}
use Rattle.sqlite_resolve.specs.Compile.{compiled, command, returning, timed, first, small, with_command}
use Rattle.sqlite_resolve.specs.Lowering.{Checked, and_then}
use Rattle.sqlite_resolve.specs.declared.compiled.Compiled.{Compiled}
use Rattle.sqlite_resolve.specs.declared.error.CompileError.{CompileError}

-- a statement without RETURNING that reads no time
abbrev IsBare : {P : Type 0} → (P → List (List ℕ)) → (P → Checked (Option Returning)) → Checked P → Type 0
IsBare formats shown (Ok p) = (shown p ≡ Ok None) × (formats p ≡ [])
IsBare formats shown (Err e) = Unit {0}

-- is compiled to one that has none either
module _ {P : Type 0} (formats : P → List (List ℕ)) (shown : P → Checked (Option Returning)) (run : P → Checked Command) (whole : P → List (List ℕ) × (Command × Option Returning) → Compiled)
    (keeps : (p : P) (plan : List (List ℕ) × (Command × Option Returning)) → ((whole p plan).returning ≡ plan.1.1) × ((whole p plan).formats ≡ plan.0)) where
  abbrev plan_of : P → Checked (List (List ℕ) × (Command × Option Returning))
  plan_of p = and_then (and_then (shown p) (λ s. and_then (run p) (λ x. Ok (x, s)))) (λ found. Ok (formats p, found))

  planned_bare : (p : P) (s : Checked (Option Returning)) (x : Checked Command) (c : Compiled) → s ≡ Ok None → formats p ≡ []
      → and_then (and_then (and_then s (λ what. and_then x (λ command. Ok (command, what)))) (λ found. Ok (formats p, found))) (λ plan. Ok (whole p plan)) ≡ Ok c → (c.returning ≡ None) × (c.formats ≡ [])
  planned_bare p (Ok None) (Ok x) c none plain is =
      let same : whole p (formats p, (x, None)) ≡ c = cc in
      let kept = keeps p (formats p, (x, None)) in
      (ap (λ (d : Compiled). d.returning) (sym same) ∙ kept.0, ap (λ (d : Compiled). d.formats) (sym same) ∙ kept.1 ∙ plain)
  planned_bare p (Ok None) (Err e) c none plain is = absurd (let e = is in cc)
  planned_bare p (Ok (Some what)) x c none plain is = absurd (let e = none in cc)
  planned_bare p (Err e) x c none plain is = absurd (let e = none in cc)

  compiled_bare : (r : Checked P) (c : Compiled) → IsBare formats shown r → and_then r (λ p. and_then (plan_of p) (λ plan. Ok (whole p plan))) ≡ Ok c → (c.returning ≡ None) × (c.formats ≡ [])
  compiled_bare (Ok p) c bare is = planned_bare p (shown p) (run p) c bare.0 bare.1 is
  compiled_bare (Err e) c bare is = absurd (let e = is in cc)

-- the text is such a statement
abbrev pub IsBareIn : Schema → List ℕ → Type 0
IsBareIn schema text = IsBare (λ p. timed schema p.formats p.statement) (λ p. returning schema (small p.names + small (timed schema p.formats p.statement)) p.statement) (first text)

bare : (schema : Schema) (text : List ℕ) (c : Compiled) → IsBareIn schema text → compiled schema text ≡ Ok c → (c.returning ≡ None) × (c.formats ≡ [])
unfolding everything
bare schema text c alone is =
    compiled_bare (λ p. timed schema p.formats p.statement) (λ p. returning schema (small p.names + small (timed schema p.formats p.statement)) p.statement)
    (λ p. command schema p.formats (small p.names + small (timed schema p.formats p.statement)) p.statement) with_command (λ p plan. (refl, refl)) (first text) c alone is

-- and it is a query of the schema's own tables, where the listing has none of that name
pub only_reads : (text : List ℕ) → ((schema : Schema) → IsBareIn schema text) → is_ok (if_select (compiled listing_schema text)) ≡ false → OnlyReads text
unfolding understood
only_reads text alone unlisted schema c is = grind (arith, bare schema text c (alone schema))

module _ (text : List ℕ) (only : OnlyReads text) where
  -- what a statement with this text showed, the query shows, and it changed nothing
  pub shown : (old new : State) (rows : List Row) → Shown text [] old new rows → ReturnsRows text old.now rows × IsUnchanged old new
  unfolding Shown
  shown old new rows h =
      let c = h.0 in
      let it = only old.now.schema c h.1.is in
      let seen = subst (ShowsRows old new text c (with_time [] c.formats h.1.now) rows) it.1 h.2 in
      let same = subst (λ b. IsSourceOf b old.now seen.0) it.0 seen.1 in
      let reads = subst (λ db. Reads c.command db (with_time [] c.formats h.1.now) rows) same seen.2 in
      (record { query = c; is = h.1.is; reads = subst (λ formats. Reads c.command old.now (with_time [] formats h.1.now) rows) it.2 reads }, seen.3)

  -- what it has shown so far, the query shows first
  pub shown_first : (s : State) (rows : List Row) → Begins text [] s rows → ReturnsFirstRows text s.now rows
  unfolding Begins
  shown_first s rows h =
      let c = h.0 in
      let it = only s.now.schema c h.1.is in
      let same = subst (λ b. IsSourceOf b s.now h.3) it.0 h.4 in
      let reads = subst (λ db. ReadsFirst c.command db (with_time [] c.formats h.1.now) rows) same h.5 in
      record { query = c; is = h.1.is; reads = subst (λ formats. ReadsFirst c.command s.now (with_time [] formats h.1.now) rows) it.2 reads }

  -- it commits nothing
  pub never_commits : (s : State) (db : Trees) → ¬ CommitsShowing text [] s db
  unfolding CommitsShowing
  never_commits s db h = absurd (let some = subst IsSome (only s.now.schema h.0 h.1.is).1 h.2 in cc)

  none_returned : (schema : Schema) (r : Result Compiled CompileError) → understood schema text ≡ r → ¬ Returns r
  none_returned schema (Ok c) is some = absurd (let it = subst IsSome (only schema c is).1 some in cc)
  none_returned schema (Err e) is none = none

  -- and it begins at its first row
  pub begun : {S : Type 0} (g : Ghosts S) (old new : Held S) → HasBegun g text [] old new → HasGiven g text [] new [] × IsUnchanged (state g old) (state g new)
  begun g old new (inl h) = h
  begun g old new (inr h) = absurd (none_returned old.schema (understood old.schema text) refl h.0)
