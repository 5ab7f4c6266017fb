use Rattle.std.proofs.Common.{◌∙◌, ap, sym, Ok}
use Rattle.farm_jobfile.proofs.DocumentLemmas.{text_read, text_unread}
use Rattle.farm_jobfile.proofs.fields.text_of.Goals as goal

pub returns-in-Ok-clause-text : goal.returns-in-Ok-clause-text
returns-in-Ok-clause-text c =
    sym (text_read c.args.file c.args.most c.args.bytes.now c.if-bytes-most.false c.in-Ok.ensures.cases.1 ∙ ap Ok (sym c.in-Ok.ensures.cases.0))

pub returns-in-Err-clause-text : goal.returns-in-Err-clause-text
returns-in-Err-clause-text c =
    sym (text_unread c.args.file c.args.most c.args.bytes.now c.if-bytes-most.false c.in-Err.ensures.cases.0)
