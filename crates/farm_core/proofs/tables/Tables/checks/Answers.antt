use Rattle.std.proofs.Common.{◌≡◌, ◌+◌, ◌<◌, length, get_or, ap, sym, ◌∙◌, arith}
use Rattle.farm_types.specs.Names.{checks, Farm, is_due}
use Rattle.farm_core.specs.Came.{Seen, seen, seen_at}
use Rattle.farm_core.specs.Plain.{plain_farm}
use Rattle.farm_core.proofs.Checking.{checks_end, checks_from, checks_none, checked_clock, checked_long, checked_next, is_checked, not_due}
use Rattle.farm_core.proofs.Steps.{lead_on_join, lead_on_none}
use Rattle.farm_core.proofs.tables.Tables.checks.Goals as goal
use Rattle.farm_core.proofs.tables.Tables.checks.Goals.{then-is_due+in_ok-check_board, else-is_due}

pub loop-at-preserved : goal.loop-at-preserved
loop-at-preserved c =
    let before = c.loop-at.invariant in
    let t = c.args.self.now.clock in
    let n = c.loop-at.at in
    let F : Farm = plain_farm c.loop-at.self in
    let b = c.index-rows-at.result in
    let low : n < length F.boards = omega (arith, before.long) in
    let is : b ≡ get_or F.boards n b = c.index-rows-at.is ∙ ap (λ bs. get_or bs n b) c.rows.ensures.rows in
    let due : is_due F t b ≡ c.is_due.result = ap (λ u. is_due F u b) (sym before.clock) ∙ sym c.is_due.ensures in
    elim c.if-is_due.branch [
      | then-is_due+in_ok-check_board w ↦
          let made = w.in_ok-check_board.ensures b is in
          rw w.self-is (record {
            rest = ap (λ (s : Seen). seen_at (checks_from t (n + 1) s.farm) s) made.now ∙ ap (λ G. seen_at G (seen c.loop-at.self)) (is_checked t F n b c.rows.ensures.sorted low is (due ∙ w.if-is_due.true)) ∙ before.rest;
            clock = ap (λ (s : Seen). s.farm.clock) made.now ∙ checked_clock F b ∙ before.clock;
            long = ap (λ (s : Seen). length s.farm.boards) made.now ∙ checked_long F b ∙ before.long;
            more = omega (arith, ap (λ (s : Seen). s.farm.next) made.now, checked_next F b, before.more);
            logs = lead_on_join _ _ _ before.logs made.logs;
          })
      | else-is_due w ↦
          rw w.self-is (record {
            rest = ap (λ G. seen_at G (seen c.loop-at.self)) (not_due t F n b c.rows.ensures.sorted low is (due ∙ w.if-is_due.false)) ∙ before.rest;
            clock = before.clock;
            long = before.long;
            more = before.more;
            logs = before.logs;
          })
    ]

pub returns-clause-came : goal.returns-clause-came
returns-clause-came c =
    let before = c.loop-at.invariant in
    record {
      now = sym (ap (λ G. seen_at G (seen c.loop-at.self)) (checks_end c.args.self.now.clock c.loop-at.at (plain_farm c.loop-at.self) (omega (arith, before.long)))) ∙ before.rest;
      logs = before.logs;
    }

pub returns-then-not-has_checks-clause-came : goal.returns-then-not-has_checks-clause-came
returns-then-not-has_checks-clause-came c =
    let S = c.args.self.now in
    record {
      now = ap (λ G. seen_at G (seen S)) (sym (checks_none (plain_farm S) S.clock (sym c.has_checks.ensures ∙ c.if-not-has_checks.true)));
      logs = lead_on_none S;
    }

pub returns-then-not-has_checks-clause-count : goal.returns-then-not-has_checks-clause-count
returns-then-not-has_checks-clause-count c =
    let S = c.args.self.now in
    let same : (checks (plain_farm S) S.clock).next ≡ S.next = ap (λ (G : Farm). G.next) (checks_none (plain_farm S) S.clock (sym c.has_checks.ensures ∙ c.if-not-has_checks.true)) in
    omega (arith, same)
