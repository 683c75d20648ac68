use Rattle.std.proofs.Common.{arith}
use Rattle.desk_text.proofs.Putting.{moved, put-one-fits, digit-alone}
use Rattle.desk_line.proofs.text.set_decimal.Goals as goal

pub returns-then-n-lt10-clause-puts : goal.returns-then-n-lt10-clause-puts
returns-then-n-lt10-clause-puts c = moved (put-one-fits _ _ _ (omega arith)) (digit-alone _ (omega arith))
