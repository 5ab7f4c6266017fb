use Rattle.farm_desk.proofs.LineLemmas.{taken_bytes}
use Rattle.farm_desk.proofs.lab_files.read_lab_from.Goals as goal

pub returns : goal.returns
returns g c =
    taken_bytes g.R.Read.remaining c.take-start.result c.args.reader _ _ _ c.take-start.ensures.limit c.take-start.ensures.inner c.new-bytes.ensures.items
    c.in_ok-read_to_end.ensures.bytes
