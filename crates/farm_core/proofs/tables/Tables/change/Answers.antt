use Rattle.std.proofs.Common.{◌+◌, ◌≤◌, ap, sym, ◌∙◌, subst, arith}
use Rattle.farm_types.specs.Names.{act, change, Farm, IsSound, keep, last_moment, numbers_end, put_rows}
use Rattle.farm_sound.proofs.Step.{acted_call, IsSound-moved_to}
use Rattle.farm_pick.specs.Queued.{queue_lists}
use Rattle.farm_core.specs.Came.{Seen}
use Rattle.farm_core.specs.Following.{FollowsIn}
use Rattle.farm_core.specs.Plain.{plain_farm}
use Rattle.farm_core.proofs.AcceptedCalls.{in_time}
use Rattle.farm_core.proofs.Commanded.{follows_in, kept_lists}
use Rattle.farm_core.proofs.Steps.{lead_on_join, rows_led}
use Rattle.farm_core.proofs.tables.Tables.change.Goals as goal

pub act-requires : goal.act-requires
act-requires c =
    let k = c.args.call.now in
    let F : Farm = plain_farm c.args.self.now in
    let started = c.begin.ensures.farm in
    let sound = IsSound-moved_to F k c.requires.accepted c.requires.sound in
    record {
      sound = subst IsSound (sym started) sound;
      clock = subst (λ (G : Farm). G.clock ≤ last_moment) (sym started) (in_time F k c.requires.accepted c.requires.sound);
      next = subst (λ (G : Farm). G.next ≤ numbers_end) (sym started) (omega (arith, c.requires.sound.steady.next.1));
      begun = c.begin.ensures.rests.boards;
      fits = c.begin.ensures.queues ∙ c.requires.fits ∙ ap queue_lists (sym started);
      follow = subst (λ (G : Farm). FollowsIn G k.caller k.cmd) (sym started) (follows_in F k c.requires.sound c.requires.accepted);
    }

pub keep-requires : goal.keep-requires
keep-requires c =
    let k = c.args.call.now in
    let F : Farm = plain_farm c.args.self.now in
    let started = c.begin.ensures.farm in
    let acted = acted_call F k c.requires.accepted c.requires.sound in
    let same = c.in_ok-reply.ensures.reply ∙ ap (λ (F : Farm). (act F k.caller k.cmd).reply) started in
    rw same (omega (arith, acted.first), omega (arith, acted.second), omega (arith, acted.third))

pub returns-clause-farm : goal.returns-clause-farm
unfolding change
returns-clause-farm c =
    let k = c.args.call.now in
    let F : Farm = plain_farm c.args.self.now in
    let started = c.begin.ensures.farm in
    let reply = c.in_ok-reply.ensures.reply ∙ ap (λ (F : Farm). (act F k.caller k.cmd).reply) started in
    let acts = ap (λ (s : Seen). s.farm) c.in_ok-reply.ensures.came.now ∙ ap (λ (F : Farm). (act F k.caller k.cmd).farm) started in
    let kept = ap (λ (s : Seen). s.farm) c.in_ok-keep.ensures.now ∙ (λ i. keep k (reply i) (acts i)) in
    c.take_changes-changes.ensures.farm ∙ (λ i. record (kept i) { count = F.count + 1 })

pub returns-clause-reply : goal.returns-clause-reply
unfolding change
returns-clause-reply c =
    let k = c.args.call.now in
    let F : Farm = plain_farm c.args.self.now in
    let started = c.begin.ensures.farm in
    c.in_ok-reply.ensures.reply ∙ ap (λ (F : Farm). (act F k.caller k.cmd).reply) started

pub returns-clause-queues : goal.returns-clause-queues
returns-clause-queues c =
    let k = c.args.call.now in
    let kept = c.in_ok-keep.ensures.now in
    let acted = c.in_ok-reply.ensures.came.now in
    c.take_changes-changes.ensures.queues
    ∙ ap (λ (s : Seen). s.queues) kept
    ∙ ap (λ (s : Seen). s.queues) acted
    ∙ ap (λ (s : Seen). queue_lists s.farm) (sym acted)
    ∙ sym (kept_lists (plain_farm c.act.new.self) k c.in_ok-reply.reply)
    ∙ ap (λ (s : Seen). queue_lists s.farm) (sym kept)
    ∙ ap queue_lists (sym c.take_changes-changes.ensures.farm)

pub returns-clause-rows : goal.returns-clause-rows
returns-clause-rows c =
    ap (λ (G : Farm). put_rows G c.take_changes-changes.result) (sym c.begin.ensures.farm)
    ∙ rows_led c.begin.new.self c.keep.new.self _ c.take_changes-changes.result c.begin.ensures.rests (lead_on_join _ _ _ c.in_ok-reply.ensures.came.logs c.in_ok-keep.ensures.logs) c.take_changes-changes.ensures.logged
    ∙ sym c.take_changes-changes.ensures.farm
