use Rattle.std.proofs.Common.{◌≡◌, ◌+◌, drop}
use Rattle.farm_types.specs.Names.{new_members, put_jobs}
use Rattle.farm_core.specs.Came.{LeadOn, seen, seen_at}
use Rattle.farm_core.specs.Edits.{text_at}
use Rattle.farm_core.specs.Plain.{plain_farm}
use Rattle.farm_core.proofs.tables.Tables.add_members.Given as goal

abbrev pub invariant-loop-at : goal.invariant-loop-at
invariant-loop-at l = record {
  now : seen_at (put_jobs (plain_farm l.self) (new_members l.group (l.group + l.at) l.owner l.priority (drop l.at l.wants) (drop l.at l.roles) (text_at l.at l.body))) (seen l.self)
      ≡ seen_at (put_jobs (plain_farm l.fn.self) (new_members l.group l.group l.owner l.priority l.wants l.roles l.body)) (seen l.fn.self);
  logs : LeadOn l.fn.self l.self;
}
