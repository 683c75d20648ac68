-- The test decides which value the definition takes.
use borrow.Author.Tests.{eq-eqb, ne_eqb}
use Rattle.name.specs.Spelled.{padded}
use Rattle.rules.specs.Name.{name_of}
use Rattle.name.proofs.present.Goals as goal

pub returns-then-r-eq1 : goal.returns-then-r-eq1
unfolding name_of padded
returns-then-r-eq1 c = rw (eq-eqb _ _ c.if-r-eq1.true) cc

pub returns : goal.returns
unfolding name_of padded
returns c = rw (ne_eqb _ _ c.if-r-eq1.false) cc
