use Rattle.std.proofs.Common.{sym, arith}
use Rattle.farm_core.proofs.Leasing.{noted_more}
use Rattle.farm_core.proofs.res_table.note_leases.Goals as goal

pub loop-row-preserved : goal.loop-row-preserved
loop-row-preserved c =
    record {
      noted = noted_more c.loop-row.leases c.note.new.leases c.in_ok-note.ensures.grows c.args.rows.now c.loop-row.row-index _ c.row-item.result (omega arith) (sym c.row-item.is)
          c.loop-row.invariant.noted c.in_ok-note.ensures.noted;
      grows = λ lease was. c.in_ok-note.ensures.grows lease (c.loop-row.invariant.grows lease was);
    }
