-- Part behind part is the whole row (`row_kept`).
use Rattle.std.proofs.Common.{ap, ◌∙◌}
use Rattle.stored.specs.Stored.{all_fit}
use Rattle.stored.proofs.Back.{row_kept, kept-fits}
use Rattle.stored.proofs.keep.Goals as goal

pub returns-clause-numbers : goal.returns-clause-numbers
returns-clause-numbers c =
    row_kept c.args.r c.args.w.now c.told-w c.keep.ensures.numbers c.keep-2.ensures.numbers c.keep-3.ensures.numbers
    c.keep-4.ensures.numbers c.keep-5.ensures.numbers c.keep-6.ensures.numbers c.keep-7.ensures.numbers

pub returns-clause-fits : goal.returns-clause-fits
returns-clause-fits c = λ l.
    ap all_fit (returns-clause-numbers c)
    ∙ kept-fits c.args.r (c.keep.ensures.fits tt) (c.keep-2.ensures.fits tt) (c.keep-3.ensures.fits tt) (c.keep-4.ensures.fits tt)
    (c.keep-5.ensures.fits tt) (c.keep-7.ensures.fits l)
