-- The head and the zeros behind it are the page.
use Rattle.std.proofs.KnownBytes.{Appends-trans}
use Rattle.farm_desk.specs.NewFile.{page_head, zeros}
use Rattle.farm_desk.proofs.new_file.write_first_page.Goals as goal

pub returns : goal.returns
returns g c = Appends-trans _ _ _ page_head (zeros 916) (rw c.page_head.ensures at c.in_ok-write_all.ensures.bytes) c.in_ok-write_all-2.ensures.bytes
