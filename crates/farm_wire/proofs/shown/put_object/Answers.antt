-- A comma, a member, and the members that are left.
use Rattle.std.proofs.Common.{◌<◌, sym, map, length, arith}
use Rattle.std.proofs.Math.Path.{subst}
use Rattle.std.proofs.lemmas.List.{drop_all}
use Rattle.std.proofs.lemmas.Result.{on_ok_weaker}
use Rattle.serde_json.specs.Written.{members_text}
use Rattle.farm_wire.specs.Parts.{member_of}
use Rattle.farm_wire.specs.Shown.{object_members}
use Rattle.farm_wire.proofs.WrittenLemmas.{members_next, plain_at}
use Rattle.farm_wire.proofs.shown.put_object.Goals as goal

pub loop-member-init : goal.loop-member-init
loop-member-init g c = λ end taken. taken

pub put_word-requires : goal.put_word-requires
put_word-requires g c =
    let within : c.loop-member.member-index < length c.args.members.now = omega arith in
    plain_at c.args.members.now c.loop-member.member-index c.member-item.result within c.member-item.is c.requires

pub loop-member-preserved : goal.loop-member-preserved
loop-member-preserved g c =
    let joins = g.met.S.Sink.joins in
    let all = c.args.members.now in
    let i = c.loop-member.member-index in
    let within : i < length all = omega arith in
    λ end taken. c.loop-member.invariant end
    (subst (g.S.Sink.Takes c.loop-member.sink end) (members_next c.loop-member.later all i c.member-item.result within c.member-item.is)
    (joins _ _ _ _ _ c.in_ok-put_comma.ensures (joins _ _ _ _ _ c.in_ok-put_word.ensures
    (joins _ _ _ _ _ c.in_ok-put-2.ensures (joins _ _ _ _ _ c.in_ok-put_part.ensures taken)))))

pub returns : goal.returns
returns g c =
    let none = drop_all c.loop-member.member-index c.args.members.now c.loop-member-test.false in
    on_ok_weaker _ (λ last. g.met.S.Sink.joins _ _ _ _ _ c.in_ok-put.ensures (c.loop-member.invariant _
    (subst (λ xs. g.S.Sink.Takes c.loop-member.sink c.put-2.new.self (members_text c.loop-member.later (object_members (map member_of xs)))) (sym none) last)))
    c.put-2.ensures
