-- With Append 1 the next name is another, else the same (`Renaming`).
use borrow.Author.Tests.{eq-eqb, ne_eqb}
use Rattle.moves.proofs.Renaming.{numbered-new, numbered-same}
use Rattle.moves.proofs.number_on.Goals as goal

pub returns-then-r-eq1 : goal.returns-then-r-eq1
returns-then-r-eq1 c = λ h. numbered-new _ h c.number-n.ensures c.raise.ensures (eq-eqb _ _ c.if-r-eq1.true)

pub returns-else-r-eq1 : goal.returns-else-r-eq1
returns-else-r-eq1 c = λ h. numbered-same _ h c.number-n.ensures (ne_eqb _ _ c.if-r-eq1.false)
