-- Two digits, three, or as many as there are.
use Rattle.std.proofs.Common.{arith}
use Rattle.desk_text.specs.Digits.{most_digits}
use Rattle.desk_text.proofs.Putting.{moved, put_two, put_three, put-most, digits-two, digits-three, length_digits}
use Rattle.desk_line.proofs.text.set_long.Goals as goal

pub returns-then-n-lt100-clause-puts : goal.returns-then-n-lt100-clause-puts
returns-then-n-lt100-clause-puts c = moved (put_two _ _ _ _ (omega arith)) (digits-two _ (omega arith) (omega arith))

pub returns-then-n-lt1000-clause-puts : goal.returns-then-n-lt1000-clause-puts
returns-then-n-lt1000-clause-puts c = moved (put_three _ _ _ _ _ (omega arith)) (digits-three _ (omega arith) (omega arith))

pub returns-clause-inside : goal.returns-clause-inside
returns-clause-inside c = omega (arith, put-most c.put_decimal.ensures, length_digits most_digits c.args.n)
