use Rattle.std.proofs.Common.{◌≡◌, ◌-◌, filter, length, ap, sym, ◌∙◌, subst}
use Rattle.farm_types.specs.Names.{board_cmp, checks, expire, Farm, giving_back, is_dead, IsSound, put_all, reply_of, serve_all, Served}
use Rattle.farm_pick.specs.Queued.{QueueLists, idle_boards, queue_lists}
use Rattle.farm_core.specs.Came.{LeadOn, Seen}
use Rattle.farm_core.specs.Following.{free_of, without_all}
use Rattle.farm_core.specs.Plain.{plain_farm}
use Rattle.farm_core.proofs.Free.{prepared_types}
use Rattle.farm_core.proofs.Sound.{small_collector}
use Rattle.farm_core.proofs.Steps.{lead_on_join}
use Rattle.farm_core.proofs.Whole.{is_expired, is_prepared, prepared, prepared_nobody, prepared_queue, prepared_sound, served_is}
use Rattle.farm_core.proofs.tables.Tables.pass.Goals as goal

pub refresh_free_boards-requires : goal.refresh_free_boards-requires
refresh_free_boards-requires c =
    let T = c.args.self.now in
    let F : Farm = plain_farm T in
    let back = c.in_ok-give_back.ensures in
    let over = c.in_ok-ended.ensures.left in
    let done = c.in_ok-checked.ensures.came in
    let logs : LeadOn T c.checks.new.self = lead_on_join _ _ _ (lead_on_join _ _ _ back.logs over.logs) done.logs in
    let boards = ap (λ (s : Seen). s.queues.boards) done.now ∙ ap (λ (s : Seen). s.queues.boards) over.now ∙ ap (λ (s : Seen). s.queues.boards) back.now ∙ ap (λ (q : QueueLists). q.boards) c.requires.fits in
    let types = ap (λ (G : Farm). G.types)
    (is_prepared F (plain_farm c.give_back.new.self) (plain_farm c.expire.new.self) (plain_farm c.checks.new.self) (ap (λ (s : Seen). s.farm) back.now) (ap (λ (s : Seen). s.farm) over.now) (ap (λ (s : Seen). s.farm) done.now))
    ∙ prepared_types F in
    record {
      boards = F.boards;
      sorted = c.requires.sound.steady.boards_sorted;
      led = logs.boards.on F.boards (ap (put_all board_cmp F.boards) c.requires.begun);
      free = boards ∙ (λ i. free_of (sym types i) F.boards);
    }

-- the claims are served in a sound farm, where nobody collects
pub serve-requires-clause-sound : goal.serve-requires-clause-sound
serve-requires-clause-sound c =
    let F : Farm = plain_farm c.args.self.now in
    let followed = c.in_ok-make_room.ensures.now ∙ c.in_ok-refresh_free_boards.ensures.now in
    let farm = is_prepared F (plain_farm c.give_back.new.self) (plain_farm c.expire.new.self) (plain_farm c.checks.new.self) (ap (λ (s : Seen). s.farm) c.in_ok-give_back.ensures.now) (ap (λ (s : Seen). s.farm) c.in_ok-ended.ensures.left.now) (ap (λ (s : Seen). s.farm) c.in_ok-checked.ensures.came.now) in
    let here = ap (λ (s : Seen). s.farm) followed ∙ farm in
    subst IsSound (sym here) (prepared_sound F c.requires.sound)

pub serve-requires-clause-nobody : goal.serve-requires-clause-nobody
serve-requires-clause-nobody c =
    let F : Farm = plain_farm c.args.self.now in
    let followed = c.in_ok-make_room.ensures.now ∙ c.in_ok-refresh_free_boards.ensures.now in
    let farm = is_prepared F (plain_farm c.give_back.new.self) (plain_farm c.expire.new.self) (plain_farm c.checks.new.self) (ap (λ (s : Seen). s.farm) c.in_ok-give_back.ensures.now) (ap (λ (s : Seen). s.farm) c.in_ok-ended.ensures.left.now) (ap (λ (s : Seen). s.farm) c.in_ok-checked.ensures.came.now) in
    let here = ap (λ (s : Seen). s.farm) followed ∙ farm in
    ap (λ (G : Farm). G.collector) here ∙ prepared_nobody F

pub serve-requires-clause-small : goal.serve-requires-clause-small
serve-requires-clause-small c = small_collector (plain_farm c.args.self.now) c.requires.sound

pub serve-requires-clause-fits : goal.serve-requires-clause-fits
serve-requires-clause-fits c =
    let F : Farm = plain_farm c.args.self.now in
    let followed = c.in_ok-make_room.ensures.now ∙ c.in_ok-refresh_free_boards.ensures.now in
    let farm = is_prepared F (plain_farm c.give_back.new.self) (plain_farm c.expire.new.self) (plain_farm c.checks.new.self) (ap (λ (s : Seen). s.farm) c.in_ok-give_back.ensures.now) (ap (λ (s : Seen). s.farm) c.in_ok-ended.ensures.left.now) (ap (λ (s : Seen). s.farm) c.in_ok-checked.ensures.came.now) in
    let here = ap (λ (s : Seen). s.farm) followed ∙ farm in
    let claims = ap (λ (s : Seen). s.queues.claims) followed ∙ ap (λ (s : Seen). s.queues.claims) c.in_ok-checked.ensures.came.now ∙ ap (λ (s : Seen). s.queues.claims) c.in_ok-ended.ensures.left.now
    ∙ ap (λ (s : Seen). without_all (filter (is_dead s.farm.clock) s.farm.reservations) s.queues.claims) c.in_ok-give_back.ensures.now
    ∙ ap (λ (q : QueueLists). without_all (filter (is_dead F.clock) F.reservations) q.claims) c.requires.fits ∙ prepared_queue F c.requires.sound in
    let boards = ap (λ (s : Seen). s.queues.boards) followed ∙ ap idle_boards farm in
    (λ i. record { claims = claims i; boards = boards i }) ∙ ap queue_lists (sym here)

pub returns-clause-came : goal.returns-clause-came
returns-clause-came c =
    let F : Farm = plain_farm c.args.self.now in
    let back = c.in_ok-give_back.ensures in
    let over = c.in_ok-ended.ensures.left in
    let done = c.in_ok-checked.ensures.came in
    let last = c.in_ok-served.ensures.came in
    let followed = ap (λ (s : Seen). s.farm) (c.in_ok-make_room.ensures.now ∙ c.in_ok-refresh_free_boards.ensures.now) in
    let served = (λ i. serve_all (followed i) F.collector (followed i).clock)
    ∙ served_is F (plain_farm c.give_back.new.self) (plain_farm c.expire.new.self) (plain_farm c.checks.new.self) (ap (λ (s : Seen). s.farm) back.now) (ap (λ (s : Seen). s.farm) over.now) (ap (λ (s : Seen). s.farm) done.now) F.collector in
    record {
      now = last.now ∙ (λ i. record { farm = (served i).farm; queues = queue_lists (served i).farm });
      logs = lead_on_join _ _ _ (lead_on_join _ _ _ (lead_on_join _ _ _ (lead_on_join _ _ _ (lead_on_join _ _ _ back.logs over.logs) done.logs) c.in_ok-refresh_free_boards.ensures.logs) c.in_ok-make_room.ensures.logs) last.logs;
    }

pub returns-clause-reply : goal.returns-clause-reply
returns-clause-reply c =
    let F : Farm = plain_farm c.args.self.now in
    let given = ap (λ (s : Seen). s.farm) c.in_ok-give_back.ensures.now in
    let ended = ap (λ (s : Seen). s.farm) c.in_ok-ended.ensures.left.now in
    let farm = ap (λ (s : Seen). s.farm) c.in_ok-checked.ensures.came.now in
    let followed = ap (λ (s : Seen). s.farm) (c.in_ok-make_room.ensures.now ∙ c.in_ok-refresh_free_boards.ensures.now) in
    let B = plain_farm c.give_back.new.self in
    let E = plain_farm c.expire.new.self in
    let K = plain_farm c.checks.new.self in
    let expired : E ≡ expire (giving_back F) F.clock = is_expired F B E K given ended farm in
    let over : c.in_ok-ended.ended ≡ length (filter (is_dead F.clock) F.reservations) =
    c.in_ok-ended.ensures.count ∙ ap (λ (G : Farm). length (filter (is_dead G.clock) G.reservations)) given in
    let checked : c.in_ok-checked.checked ≡ (prepared F).next - F.next = c.in_ok-checked.ensures.count ∙ (λ i. (checks (expired i) (expired i).clock).next - (expired i).next) in
    let served : c.in_ok-served.served ≡ (serve_all (prepared F) F.collector F.clock).claims =
    c.in_ok-served.ensures.count ∙ (λ i. (serve_all (followed i) F.collector (followed i).clock).claims)
    ∙ ap (λ (s : Served). s.claims) (served_is F B E K given ended farm F.collector) in
    λ i. reply_of (checked i) (over i) (served i)
