use Rattle.std.proofs.Common.{◌∙◌, ap, sym, subst}
use Rattle.farm_types.specs.Names.{board_cmp, Done, Farm, put_all}
use Rattle.farm_pick.specs.Queued.{QueueLists, idle_boards}
use Rattle.farm_pick.proofs.Filling.{fresh_shown}
use Rattle.farm_core.specs.Came.{Seen}
use Rattle.farm_core.specs.Following.{IsFresh, free_of, queues_after}
use Rattle.farm_core.specs.Plain.{plain_farm}
use Rattle.farm_core.proofs.Commanded.{boards_stay}
use Rattle.farm_core.proofs.Steps.{lead_on_join}
use Rattle.farm_core.proofs.tables.Tables.act.Goals as goal

pub act_numbered-requires : goal.act_numbered-requires
act_numbered-requires c =
    let F : Farm = plain_farm c.args.self.now in
    record {
      numbered = c.in_default.not-Pass;
      clock = c.requires.clock;
      next = c.requires.next;
      fresh = subst (λ (q : QueueLists). IsFresh F.next q.claims) (sym c.requires.fits) (fresh_shown F c.requires.sound);
    }

pub refresh_free_boards-requires : goal.refresh_free_boards-requires
refresh_free_boards-requires c =
    let T = c.args.self.now in
    let F : Farm = plain_farm T in
    let k = c.args.call.now in
    let acts = c.in_ok-number-in_default.ensures in
    let boards = ap (λ (q : QueueLists). q.boards) acts.queues ∙ boards_stay F k.caller k.cmd T.queues ∙ ap (λ (q : QueueLists). q.boards) c.requires.fits in
    let types = ap (λ (d : Done). d.farm.types) acts.done in
    record {
      boards = F.boards;
      sorted = c.requires.sound.steady.boards_sorted;
      led = acts.logs.boards.on F.boards (ap (put_all board_cmp F.boards) c.requires.begun);
      free = boards ∙ sym (c.requires.follow.free c.in_default.not-Pass) ∙ (λ i. free_of (types i) F.boards);
    }

pub returns-in_ok-refresh_free_boards-in_default : goal.returns-in_ok-refresh_free_boards-in_default
returns-in_ok-refresh_free_boards-in_default c =
    let F : Farm = plain_farm c.args.self.now in
    let k = c.args.call.now in
    let acts = c.in_ok-number-in_default.ensures in
    let followed = c.in_ok-refresh_free_boards-in_default.ensures in
    let farm = ap (λ (s : Seen). s.farm) followed.now ∙ sym (ap (λ (d : Done). d.farm) acts.done) in
    let claims = ap (λ (s : Seen). s.queues.claims) followed.now ∙ ap (λ (q : QueueLists). q.claims) acts.queues ∙ ap (λ (q : QueueLists). (queues_after F k.caller k.cmd q).claims) c.requires.fits ∙ c.requires.follow.claims c.in_default.not-Pass in
    let boards = ap (λ (s : Seen). s.queues.boards) followed.now ∙ ap idle_boards (sym (ap (λ (d : Done). d.farm) acts.done)) in
    record {
      came = record {
        now = λ i. record { farm = farm i; queues = record { claims = claims i; boards = boards i } };
        logs = lead_on_join _ _ _ acts.logs followed.logs;
      };
      reply = sym (ap (λ (d : Done). d.reply) acts.done);
    }
