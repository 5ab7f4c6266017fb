-- What puts the members that are left puts them all.
use Rattle.std.proofs.Common.{drop, map, false}
use Rattle.serde_json.specs.Written.{members_text}
use Rattle.farm_wire.specs.Parts.{member_of}
use Rattle.farm_wire.specs.Shown.{object_members}
use Rattle.farm_wire.proofs.shown.put_object.Given as goal

abbrev pub invariant-loop-member : goal.invariant-loop-member
invariant-loop-member g l = (end : g.row.S.Denot) → g.S.Sink.Takes l.sink end (members_text l.later (object_members (map member_of (drop l.member-index l.members)))) → g.S.Sink.Takes l.initial.sink end (members_text false (object_members (map member_of l.members)))
