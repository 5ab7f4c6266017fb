use Rattle.std.proofs.Common.{refl}
use Rattle.farm_desk.proofs.orders.carry_out_from.Goals as goal

pub returns-in-Memory : goal.returns-in-Memory
returns-in-Memory g c = rw c.in-Once.is (rw c.in-Memory.is (c.answer_in_memory.ensures _))

pub returns-in-File : goal.returns-in-File
returns-in-File g c = rw c.in-Once.is (rw c.in-File.is c.do_in_files.ensures)

pub returns-in-Init : goal.returns-in-Init
returns-in-Init g c = rw c.in-Init.is (refl, c.init.ensures)

pub returns-in-Migrate : goal.returns-in-Migrate
returns-in-Migrate g c = rw c.in-Migrate.is (refl, c.migrate.ensures)

pub returns-in-Import : goal.returns-in-Import
returns-in-Import g c = rw c.in-Import.is c.do_in_files-in-Import.ensures

pub returns-in-Report : goal.returns-in-Report
returns-in-Report g c = rw c.in-Report.is c.do_in_files-in-Report.ensures

pub returns-in-Serve : goal.returns-in-Serve
returns-in-Serve g c = rw c.in-Serve.is c.do_in_files-in-Serve.ensures
