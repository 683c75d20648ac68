-- A digit and a space.
use Rattle.std.proofs.Common.{ℕ, List, [], ◌∷◌, ◌++◌, ap, arith}
use Rattle.desk_text.proofs.Putting.{moved, put_two, digit-alone}
use Rattle.desk_line.proofs.put_number.Goals as goal

pub returns-then-n-lt10-clause-puts : goal.returns-then-n-lt10-clause-puts
returns-then-n-lt10-clause-puts c =
    moved (put_two _ _ _ _ (omega arith)) (ap (λ (l : List ℕ). l ++ 32 ∷ []) (digit-alone c.args.n (omega arith)))
