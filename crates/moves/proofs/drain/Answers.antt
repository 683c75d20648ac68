-- The test decides; the end of a job gives SideNumber its fresh value, whatever it was.
use borrow.Author.Tests.{eq-eqb, ne_eqb}
use Rattle.std.proofs.Common.{ap, ◌∙◌}
use Rattle.rules.specs.Moves.{released, drained_on, drained}
use Rattle.moves.proofs.drain.Goals as goal

pub returns-then-r-eq1 : goal.returns-then-r-eq1
unfolding drained released
returns-then-r-eq1 c = λ h. rw (eq-eqb _ _ c.if-r-eq1.true) c.end.ensures

pub returns : goal.returns
unfolding drained
returns c = λ h. rw (ne_eqb _ _ c.if-r-eq1.false) (c.drain_on.ensures ∙ ap drained_on (c.number_on.ensures h))
