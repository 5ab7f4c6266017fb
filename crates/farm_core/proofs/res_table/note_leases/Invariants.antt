use Rattle.std.proofs.Common.{take}
use Rattle.farm_core.specs.Leases.{AreNoted, Grows}
use Rattle.farm_core.proofs.res_table.note_leases.Given as goal

abbrev pub invariant-loop-row : goal.invariant-loop-row
invariant-loop-row l = record {
  noted : AreNoted l.leases (take l.row-index l.rows);
  grows : Grows l.fn.leases l.leases;
}
