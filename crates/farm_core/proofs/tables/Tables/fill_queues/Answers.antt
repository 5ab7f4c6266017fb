use Rattle.std.proofs.Common.{rules, ◌≡◌, ◌∙◌, [], length, refl, ap, sym}
use Rattle.std.specs.List.{fold}
use Rattle.farm_types.specs.Names.{Farm, put}
use Rattle.farm_pick.specs.Index.{queued_cmp}
use Rattle.farm_core.specs.Following.{kind_in, free_boards_with}
use Rattle.farm_core.proofs.Free.{noted_whole}
use Rattle.farm_core.specs.Plain.{plain_farm}
use Rattle.farm_core.proofs.Filled.{fills_begin, fills_end, fills_fresh, fills_on, no_claims}
use Rattle.farm_core.proofs.tables.Tables.fill_queues.Goals as goal

pub loop-claim-init : goal.loop-claim-init
loop-claim-init c =
    let F : Farm = plain_farm c.args.self.now in
    record {
      farm = refl;
      fills = fills_begin F c.requires.sound c.note_boards.new.queues c.in_ok-claims.claims.items
          (c.in_ok-note_boards.ensures
          ∙ (λ i. record (c.requires.empty i) { boards = fold (free_boards_with (c.rows.ensures.rows i)) (c.requires.empty i).boards (c.rows-2.ensures.rows i) })
          ∙ ap (λ bs. record { claims = []; boards = bs }) (noted_whole F.types F.boards c.requires.sound.steady.boards_sorted))
          (c.in_ok-claims.ensures F c.requires.sound.steady (sym c.rows-3.ensures.rows) (sym c.rows-4.ensures.rows));
    }

pub put_waiting-requires : goal.put_waiting-requires
put_waiting-requires c =
    fills_fresh (plain_farm c.args.self.now) c.requires.sound c.loop-claim.self.queues c.loop-claim.claims.items c.pop.new.self.items c.in-Some.claim c.in-Some.ensures.items c.loop-claim.invariant.fills

pub loop-claim-preserved : goal.loop-claim-preserved
loop-claim-preserved c = record {
  farm = c.loop-claim.invariant.farm;
  fills = fills_on (plain_farm c.args.self.now) c.requires.sound c.loop-claim.self.queues c.loop-claim.claims.items c.pop.new.self.items c.in-Some.claim c.in-Some.ensures.items c.loop-claim.invariant.fills
      c.put_waiting.new.queues
      (c.in_ok-put_waiting.ensures
      ∙ (λ i. record c.loop-claim.self.queues {
        claims = put queued_cmp c.loop-claim.self.queues.claims (record { claim = c.in-Some.claim; kind = kind_in ((ap (λ (F : Farm). F.jobs) c.loop-claim.invariant.farm) i) c.in-Some.claim });
      }));
}

pub returns-clause-queues : goal.returns-clause-queues
returns-clause-queues c =
    let none : length c.loop-claim.claims.items ≡ 0 = search rules in
    fills_end (plain_farm c.args.self.now) c.requires.sound c.loop-claim.self.queues c.loop-claim.claims.items (no_claims c.loop-claim.claims.items none) c.loop-claim.invariant.fills
