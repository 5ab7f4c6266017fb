use Rattle.std.proofs.Common.{inl, refl, ◌≡◌, ◌++◌, [], ◌∷◌, sym, subst, ◌∙◌, rules, arith}
use Rattle.farm_store.proofs.Names.{given_begin, state, table_columns_in, unchanged_then}
use Rattle.sqlite.specs.State.{CommitsShowing, HasCleanDisk}
use Rattle.farm_store.proofs.LeftAlone.{all_shown, failed_left, reads_only, sees, some_shown}
use Rattle.farm_store.proofs.NextRow.{only_moved}
use Rattle.farm_store.proofs.OnlyReads.{begun, never_commits}
use Rattle.farm_store.proofs.ReadRows.{SoFar, all_good, none_good, one_more, refuses}
use Rattle.farm_store.proofs.queries.rows.read.Goals as goal

pub returns-in_err-rows-clause-only : goal.returns-in_err-rows-clause-only
returns-in_err-rows-clause-only g c =
    let text = c.query.result.now in
    let old = state g.S.Store c.args.conn.now in
    let new = state g.S.Store c.query-2.follows.lender-at-none in
    let held = rw c.in_err-rows.was at c.query-2.follows.holds-at-none in
    reads_only old new (CommitsShowing text [] old) held.survives (never_commits text c.query.ensures.only_reads old) (held.mode c.requires.autocommit)
    (λ clean. failed_left text [] old new _ (held.err clean))

pub rows-init : goal.rows-init
rows-init g c =
    let text = c.query.result.now in
    let only = c.query.ensures.only_reads in
    let old = c.args.conn.now in
    let new = c.in_ok-rows.rows.conn.now in
    let made = c.in_ok-rows.ensures in
    record {
      same_reference = refl;
      only = reads_only (state g.S.Store old) (state g.S.Store new) (CommitsShowing text [] (state g.S.Store old)) made.survives (never_commits text only (state g.S.Store old)) (made.mode c.requires.autocommit) (λ clean. inl (begun text only g.S.Store old new (made.begun clean)).1);
      given = λ clean. let it = begun text only g.S.Store old new (made.begun clean) in (it.1, (text, c.query.ensures, ([], it.0, rw (c.reserve_exact-room.ensures.items, c.new-all.ensures.items) (tt, λ _. refl))));
      edition = refl;
    }

pub returns-in_default-clause-read : goal.returns-in_default-clause-read
returns-in_default-clause-read g c clean T at =
    let moved = c.next.follows.holds-at-none in
    let was = state g.S.Store c.rows.rows.conn.now in
    let now = state g.S.Store c.next.follows.lender-at-none.conn.now in
    let late : HasCleanDisk now = search rules in
    let sofar = c.rows.invariant.given (omega (arith, moved.survives.clean)) in
    let it = sofar.1.2 in
    let shown = (rw (c.in_ok-row.was, c.in_default.is) at (moved.ok late)) sofar.1.0 [] it.0 it.1 in
    all_good (g.R.Stored.IsGood c.args.edition) (g.R.Stored.columns c.args.edition) (g.R.Stored.place c.args.edition).width it.0 ((g.R.Stored.place c.args.edition).rows T) c.rows.all.items it.2
    (all_shown (g.R.Stored.place c.args.edition) sofar.1.0 sofar.1.1 was T (sees (table_columns_in c.args.edition) (state g.S.Store c.args.conn.now) was T sofar.0 at) now it.0 shown)

pub returns-in_err-stored-clause-read : goal.returns-in_err-stored-clause-read
returns-in_err-stored-clause-read g c clean T at =
    let moved = c.next.follows.holds-at-none in
    let old = state g.S.Store c.args.conn.now in
    let was = state g.S.Store c.rows.rows.conn.now in
    let now = c.next.follows.lender-at-none.conn.now in
    let row = c.in-Some.row.now in
    let late : HasCleanDisk (state g.S.Store now) = search rules in
    let sofar = c.rows.invariant.given (omega (arith, moved.survives.clean)) in
    let text = sofar.1.0 in
    let it = sofar.1.2 in
    let given = (rw (c.in_ok-row.was, c.in-Some.is) at (moved.ok late)) text [] it.0 it.1 in
    let same = unchanged_then old was (state g.S.Store now) sofar.0 (rw c.in_ok-row.was at (moved.same late)) in
    let whole = some_shown (g.R.Stored.place c.args.edition) text sofar.1.1 (state g.S.Store now) T (sees (table_columns_in c.args.edition) old (state g.S.Store now) T same at) (it.0 ++ row ∷ []) (given_begin g.S.Store text [] now (it.0 ++ row ∷ []) given) in
    let good = g.R.Stored.IsGood c.args.edition in
    let columns = g.R.Stored.columns c.args.edition in
    let refused = rw c.rows.invariant.edition at c.in_err-stored.ensures.reads in
    refuses c.from_residual-in_err-stored.result (λ all. all.items) good columns ((g.R.Stored.place c.args.edition).rows T) c.in_err-stored.field-0.0 c.from_residual-in_err-stored.ensures.1
    (λ known. none_good good columns (g.R.Stored.place c.args.edition).width it.0 row ((g.R.Stored.place c.args.edition).rows T) whole.0 whole.1 (refused known))

pub rows-preserved : goal.rows-preserved
rows-preserved g c =
    let moved = c.next.follows.holds-at-none in
    let old = state g.S.Store c.args.conn.now in
    let was = state g.S.Store c.rows.rows.conn.now in
    let now = state g.S.Store c.next.follows.lender-at-none.conn.now in
    let read = rw c.rows.invariant.edition at c.in_ok-stored.ensures.reads in
    let items : c.push.new.self.items ≡ c.rows.all.items ++ c.in_ok-stored.stored ∷ [] = search rules in
    record {
      same_reference = moved.same_reference ∙ c.rows.invariant.same_reference;
      only = only_moved old was now c.next.result c.rows.invariant.only moved.survives (moved.mode c.rows.invariant.only.autocommit) moved.same moved.kept;
      given = λ clean. let sofar = c.rows.invariant.given (omega (arith, moved.survives.clean)) in
          let it = sofar.1.2 in
          let more = one_more (g.R.Stored.IsGood c.args.edition) (g.R.Stored.columns c.args.edition) (g.R.Stored.place c.args.edition).width (g.met.R.Stored.wide c.args.edition) it.0 c.in-Some.row.now c.rows.all.items c.in_ok-stored.stored it.2 read.0 read.1 in (
            unchanged_then old was now sofar.0 (rw c.in_ok-row.was at (moved.same clean)),
            (sofar.1.0, sofar.1.1, (it.0 ++ c.in-Some.row.now ∷ [], (rw (c.in_ok-row.was, c.in-Some.is) at (moved.ok clean)) sofar.1.0 [] it.0 it.1, subst (SoFar (g.R.Stored.IsGood c.args.edition) (g.R.Stored.columns c.args.edition) (g.R.Stored.place c.args.edition).width (it.0 ++ c.in-Some.row.now ∷ [])) (sym items) more)),
          );
      edition = c.in_ok-stored.ensures.edition ∙ c.rows.invariant.edition;
    }

pub returns-in_err-row-clause-only : goal.returns-in_err-row-clause-only
returns-in_err-row-clause-only g c = let only = only_moved (state g.S.Store c.args.conn.now) (state g.S.Store c.rows.rows.conn.now) (state g.S.Store c.next.follows.lender-at-none.conn.now) c.next.result c.rows.invariant.only c.next.follows.holds-at-none.survives (c.next.follows.holds-at-none.mode c.rows.invariant.only.autocommit) c.next.follows.holds-at-none.same c.next.follows.holds-at-none.kept in search rules

pub returns-in_default-clause-only : goal.returns-in_default-clause-only
returns-in_default-clause-only g c = let only = only_moved (state g.S.Store c.args.conn.now) (state g.S.Store c.rows.rows.conn.now) (state g.S.Store c.next.follows.lender-at-none.conn.now) c.next.result c.rows.invariant.only c.next.follows.holds-at-none.survives (c.next.follows.holds-at-none.mode c.rows.invariant.only.autocommit) c.next.follows.holds-at-none.same c.next.follows.holds-at-none.kept in search rules

pub returns-in_err-stored-clause-only : goal.returns-in_err-stored-clause-only
returns-in_err-stored-clause-only g c = let only = only_moved (state g.S.Store c.args.conn.now) (state g.S.Store c.rows.rows.conn.now) (state g.S.Store c.next.follows.lender-at-none.conn.now) c.next.result c.rows.invariant.only c.next.follows.holds-at-none.survives (c.next.follows.holds-at-none.mode c.rows.invariant.only.autocommit) c.next.follows.holds-at-none.same c.next.follows.holds-at-none.kept in search rules

pub returns-in_default-push-clause-only : goal.returns-in_default-push-clause-only
returns-in_default-push-clause-only g c = let only = only_moved (state g.S.Store c.args.conn.now) (state g.S.Store c.rows.rows.conn.now) (state g.S.Store c.next.follows.lender-at-none.conn.now) c.next.result c.rows.invariant.only c.next.follows.holds-at-none.survives (c.next.follows.holds-at-none.mode c.rows.invariant.only.autocommit) c.next.follows.holds-at-none.same c.next.follows.holds-at-none.kept in search rules
