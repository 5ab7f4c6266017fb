use Rattle.std.proofs.Common.{◌≡◌, ap, sym, subst, ◌∙◌, arith}
use Rattle.farm_core.proofs.Names.{AllByRecursion, idle_boards, QueueLists}
use Rattle.farm_types.specs.Names.{IsSmall, members}
use Rattle.farm_core.specs.Came.{Seen, seen}
use Rattle.farm_core.specs.Plain.{plain_farm}
use Rattle.farm_core.proofs.Collected.{takes_begin, takes_end, takes_on}
use Rattle.farm_core.proofs.Serving.{numbers_of, numbers_small, small_at}
use Rattle.farm_core.proofs.Steps.{lead_on_join, lead_on_none}
use Rattle.farm_core.proofs.tables.Tables.collect_group.Goals as goal

pub loop-at-init : goal.loop-at-init
loop-at-init c = record { takes = takes_begin (seen c.args.self.now) c.args.group c.requires.sound c.requires.free; logs = lead_on_none c.args.self.now }

pub collect_member-requires-clause-small : goal.collect_member-requires-clause-small
collect_member-requires-clause-small c =
    small_at c.as_slice-members.result.now c.loop-at.at
    (subst (AllByRecursion IsSmall) (sym c.as_slice-members.ensures.value)
    (numbers_small c.member_rows.result.now c.args.group c.numbers_in-numbers.result.items c.numbers_in-numbers.ensures c.member_rows.ensures.fit))
    (omega arith)

pub collect_member-requires-clause-free : goal.collect_member-requires-clause-free
collect_member-requires-clause-free c = ap (λ (q : QueueLists). q.boards) c.loop-at.invariant.takes.queues

pub loop-at-preserved : goal.loop-at-preserved
loop-at-preserved c =
    let are : c.as_slice-members.result.now ≡ numbers_of (members (plain_farm c.args.self.now) c.args.group) =
    c.as_slice-members.ensures.value ∙ c.numbers_in-numbers.ensures ∙ ap numbers_of c.member_rows.ensures.members in
    record {
      takes = takes_on (seen c.args.self.now) (seen c.loop-at.self) c.args.group c.loop-at.at c.loop-at.invariant.takes c.as_slice-members.result.now are
          (omega arith) (seen c.collect_member.new.self) c.in_ok-collect_member.ensures.collects;
      logs = lead_on_join _ _ _ c.loop-at.invariant.logs c.in_ok-collect_member.ensures.logs;
    }

pub returns : goal.returns
returns c =
    let are : c.as_slice-members.result.now ≡ numbers_of (members (plain_farm c.args.self.now) c.args.group) =
    c.as_slice-members.ensures.value ∙ c.numbers_in-numbers.ensures ∙ ap numbers_of c.member_rows.ensures.members in
    let D : Seen = seen c.args.self.now in
    let takes = c.loop-at.invariant.takes in
    let logs = c.loop-at.invariant.logs in
    let farm = takes_end D (seen c.loop-at.self) c.args.group c.loop-at.at takes c.as_slice-members.result.now are (omega arith) in
    record {
      now = λ i. record { farm = record (farm i) { collector = c.args.group }; queues = (takes.queues ∙ (λ j. record D.queues { boards = idle_boards (farm j) })) i };
      logs = record { types = logs.types; boards = logs.boards; jobs = logs.jobs; reservations = logs.reservations; kept = logs.kept };
    }
