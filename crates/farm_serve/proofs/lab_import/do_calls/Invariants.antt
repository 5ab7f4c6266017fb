use Rattle.std.proofs.Common.{◌≡◌, ◌≤◌, ◌+◌, false, take}
use Rattle.std.specs.Prelude.{None}
use Rattle.farm_serve.proofs.Names.{doubt, KeepsOwnFarm, state}
use Rattle.farm_types.specs.Names.{run}
use Rattle.farm_serve.specs.Names.{IsCounted}
use Rattle.farm_serve.proofs.lab_import.do_calls.Given as goal

-- the first calls are done, none of them was refused, and each answer is counted
abbrev pub invariant-loop-call : goal.invariant-loop-call
invariant-loop-call g l = record {
  clean : doubt (state g.S.Store l.fn.keeper.conn).is_clean ≤ doubt (state g.S.Store l.keeper.conn).is_clean;
  opened : l.keeper.is_open ≡ l.fn.keeper.is_open;
  farm : l.keeper.farm.farm ≡ run l.fn.keeper.farm.farm (take l.call-index l.calls);
  done : l.end.accepted + l.end.kept ≡ l.call-index;
  counted : IsCounted l.fn.keeper.farm.farm l.calls l.end.accepted l.end.kept;
  goes_on : l.end.stopped ≡ None;
  faultless : l.end.fault ≡ None;
  still : l.fn.keeper.is_open ≡ false → (l.call-index ≡ 0) × (l.keeper ≡ l.fn.keeper);
  keeps : KeepsOwnFarm g.S.Store l.fn.keeper → KeepsOwnFarm g.S.Store l.keeper;
}
