use Rattle.std.proofs.lemmas.Result.{IfOk-weaker}
use Rattle.farm_desk.proofs.AloneLemmas.{begins_carried, begins_short, finds_carried}
use Rattle.farm_desk.proofs.carry.find_carried.Goals as goal

pub returns-in-Ok-clause-found : goal.returns-in-Ok-clause-found
returns-in-Ok-clause-found g c = λ image it. c.in-Ok.ensures.found image it.shows

pub returns-in-Ok-clause-alone : goal.returns-in-Ok-clause-alone
returns-in-Ok-clause-alone g c = λ image it.
    begins_short image c.args.opened.0 c.in-Ok.keeper c.in-Ok.ensures.made it.shows (it.short c.if-is_short.true)

pub returns-in-Ok-2-clause-found : goal.returns-in-Ok-2-clause-found
returns-in-Ok-2-clause-found g c =
    IfOk-weaker c.carry.result _ _ (λ k again image it.
    finds_carried image c.args.opened.0 again.conn c.in-Ok.keeper k c.in-Ok.ensures.made it.shows again.carried again.made) c.carry.ensures.again

pub returns-in-Ok-2-clause-alone : goal.returns-in-Ok-2-clause-alone
returns-in-Ok-2-clause-alone g c =
    IfOk-weaker c.carry.result _ _ (λ k again image it.
    begins_carried image c.args.opened.0 again.conn c.in-Ok.keeper k c.in-Ok.ensures.made it.shows again.carried again.made) c.carry.ensures.again
