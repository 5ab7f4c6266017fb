use Rattle.std.proofs.Common.{◌∙◌, sym}
use Rattle.farm_pick.proofs.Listed.{named_here, none_fits, none_named}
use Rattle.farm_pick.proofs.idle.fitting_place.Goals as goal

pub returns-then-fits-clause-found : goal.returns-then-fits-clause-found
returns-then-fits-clause-found c =
    named_here c.args.boards.now c.requires c.args.row.now.name c.args.want.now c.in_ok-place.place c.in_ok-place.ensures.within c.in_ok-place.ensures.found
    c.index-boards-place.result c.index-boards-place.is (sym c.fits-fits.ensures ∙ c.if-fits.true)

pub returns-else-fits-clause-none : goal.returns-else-fits-clause-none
returns-else-fits-clause-none c = λ asked q.
    none_fits c.args.boards.now c.requires c.args.row.now.name c.args.want.now c.in_ok-place.place c.in_ok-place.ensures.within c.in_ok-place.ensures.found
    c.index-boards-place.result c.index-boards-place.is (sym c.fits-fits.ensures ∙ c.if-fits.false) q

pub returns-in_err-place-clause-none : goal.returns-in_err-place-clause-none
returns-in_err-place-clause-none c =
    rw c.from_residual.ensures (λ asked q. none_named c.args.boards.now c.requires c.args.row.now.name c.args.want.now c.in_err-place.ensures.none q)
