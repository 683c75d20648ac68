-- In each turn one digit more stands at the end of the part, and the number left has one less.
use Rattle.desk_text.proofs.Putting.{Filling}
use Rattle.desk_text.proofs.fill_digits.Given as goal

abbrev pub invariant-loop-i : goal.invariant-loop-i
invariant-loop-i l = Filling l.n l.part l.i l.left
