-- Each task does what it is to do.
use Rattle.std.proofs.Common.{refl}
use Rattle.farm_desk.proofs.orders.do_task.Goals as goal

pub returns-in-Answer : goal.returns-in-Answer
returns-in-Answer g c = rw c.in-Answer.is c.answer_one.ensures

pub returns-in-Import : goal.returns-in-Import
returns-in-Import g c = rw c.in-Import.is (refl, rw c.as_str.ensures.value at c.import_file.ensures)

pub returns-in-Report : goal.returns-in-Report
returns-in-Report g c = rw c.in-Report.is (refl, refl, c.print_report.ensures)

pub returns-in-Serve : goal.returns-in-Serve
returns-in-Serve g c = rw c.in-Serve.is (refl, c.serve.ensures)
