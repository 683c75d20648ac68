use Rattle.std.proofs.Common.{arith}
use Rattle.desk_text.proofs.Putting.{put-one-fits}
use Rattle.desk_text.proofs.put_byte.Goals as goal

pub returns-then-at-out : goal.returns-then-at-out
returns-then-at-out c = put-one-fits _ _ _ (omega arith)
