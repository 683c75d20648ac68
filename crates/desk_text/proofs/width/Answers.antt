use Rattle.desk_text.proofs.Putting.{wide}
use Rattle.desk_text.proofs.width.Goals as goal

pub returns : goal.returns
returns c = wide _ _ c.ilog10.ensures.bound c.ilog10.ensures.power_le c.ilog10.ensures.next_power_gt
