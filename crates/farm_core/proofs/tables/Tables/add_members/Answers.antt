use Rattle.std.proofs.Common.{◌≡◌, ℕ, List, ◌+◌, ◌∷◌, [], drop, ap, sym, ◌∙◌, arith}
use Rattle.farm_types.specs.Names.{new_job, new_members, put_jobs}
use Rattle.farm_types.specs.declared.rows.JobRow.{JobRow}
use Rattle.farm_core.specs.Came.{Seen, seen, seen_at}
use Rattle.farm_core.specs.Edits.{text_at}
use Rattle.farm_core.proofs.Members.{text_next, members_more, members_end}
use Rattle.farm_core.proofs.Steps.{jobs_lead}
use Rattle.farm_core.proofs.tables.Tables.add_members.Goals as goal

-- the members that are left behind it
abbrev rest : (c : goal.In_ok-put) → ℕ → List ℕ → List JobRow
rest c number text = new_members c.args.group number c.args.owner.now c.args.priority (drop (c.loop-at.at + 1) c.args.wants.now) (drop (c.loop-at.at + 1) c.args.roles.now) text

pub loop-at-preserved : goal.loop-at-preserved
loop-at-preserved c =
    let s : Seen = seen c.loop-at.self in
    let n = c.loop-at.at in
    let next : c.args.group + (n + 1) ≡ c.args.group + n + 1 = omega arith in
    let more = members_more c.args.group c.args.owner.now c.args.priority c.args.wants.now c.args.roles.now n (c.args.group + n) (text_at n c.args.body.now) c.index-wants-at.result c.index-roles-at.result (omega arith) c.requires.roles in
    record {
      now = (λ i. let F = record s.farm { jobs = c.in_ok-put.ensures.rows i } in seen_at (put_jobs F (rest c (next i) (text_next n c.args.body.now i))) (record s { farm = F }))
          ∙ (λ i. seen_at (put_jobs s.farm (record (c.new-row.ensures i) { role = c.copy_name-row.ensures i; body = c.in_ok-row.ensures i } ∷ rest c (c.args.group + n + 1) [])) s)
          ∙ (λ i. seen_at (put_jobs s.farm (new_job (c.args.group + n) c.args.group (c.copy-owner.ensures i) c.args.priority (c.in_ok-want.ensures i) c.index-roles-at.result (text_at n c.args.body.now) ∷ rest c (c.args.group + n + 1) [])) s)
          ∙ (λ i. seen_at (put_jobs s.farm (new_job (c.args.group + n) c.args.group c.args.owner.now c.args.priority (c.index-wants-at.is i) (c.index-roles-at.is i) (text_at n c.args.body.now) ∷ rest c (c.args.group + n + 1) [])) s)
          ∙ ap (λ rows. seen_at (put_jobs s.farm rows) s) (sym more)
          ∙ c.loop-at.invariant.now;
      logs = jobs_lead _ _ _ c.loop-at.invariant.logs c.in_ok-put.ensures.leads;
    }

pub returns : goal.returns
returns c =
    let s : Seen = seen c.loop-at.self in
    let n = c.loop-at.at in
    record {
      now = ap (λ rows. seen_at (put_jobs s.farm rows) s) (sym (members_end c.args.group c.args.owner.now c.args.priority c.args.wants.now c.args.roles.now n (c.args.group + n) (text_at n c.args.body.now) (omega arith)))
          ∙ c.loop-at.invariant.now;
      logs = c.loop-at.invariant.logs;
    }
