-- A look at the length of the log changes nothing of what the files show.
use Rattle.std.proofs.Common.{◌≡◌, ◌<◌, ◌&&◌, Bool, true, false, List, ℕ, IsTrue, ap, subst, refl}
use Rattle.std.proofs.lemmas.Bool.{ltb-true}
use Rattle.sqlite.specs.Files.{file_state}
use Rattle.sqlite.specs.Start.{FindsIn}
use Rattle.sqlite_wal.specs.Recovery.{Image}
use Rattle.farm_desk.proofs.files.open_over.Goals as goal

first_of : (a b : Bool) → IsTrue (a && b) → IsTrue a
first_of true b both = refl
first_of false b both = both

abbrev image : List ℕ → List ℕ → Image
image log db = record { log = log; db = db }

pub returns-clause-opens : goal.returns-clause-opens
returns-clause-opens g c =
    let conn = c.in-Ok-open_files.conn in
    let found = c.in-Ok-open_files.ensures.found in
    let log = c.len.new.self in
    let db = c.args.files.db in
    let same : image (g.D.Disk.seen log) (g.D.Disk.seen db) ≡ image (g.D.Disk.seen c.args.files.log) (g.D.Disk.seen db) =
    ap (λ (bytes : List ℕ). image bytes (g.D.Disk.seen db)) c.len.ensures.seen in
    record {
      shows = record {
        opened = c.in-Ok-open_files.ensures.opened;
        found = λ clean.
            subst (λ (i : Image). FindsIn i (file_state conn)) same (record { holds = (found clean).holds; reads = (found clean).reads });
      };
      short = λ is clean.
          let length_is = c.in-Ok.ensures.len (first_of (g.D.Disk.is_clean log) (g.D.Disk.is_clean db) (found clean).honest) in
          subst (λ (n : ℕ). n < 56) length_is (ltb-true c.in-Ok.length 56 is);
    }
