use Rattle.std.proofs.Common.{arith}
use Rattle.desk_text.proofs.Putting.{filling, filling-again, one-left, filled}
use Rattle.desk_text.proofs.fill_digits.Goals as goal

pub loop-i-init : goal.loop-i-init
loop-i-init c = filling _ _ c.requires (omega arith)

pub loop-i-preserved : goal.loop-i-preserved
loop-i-preserved c = filling-again _ _ _ _ c.loop-i.invariant (omega arith)

pub overflow_cast-part-2 : goal.overflow_cast-part-2
overflow_cast-part-2 c = omega (arith, one-left _ _ _ _ c.loop-i.invariant (omega arith))

pub overflow_add-part-2 : goal.overflow_add-part-2
overflow_add-part-2 c = omega (arith, one-left _ _ _ _ c.loop-i.invariant (omega arith))

pub returns : goal.returns
returns c = filled _ _ _ _ c.loop-i.invariant (omega arith)
