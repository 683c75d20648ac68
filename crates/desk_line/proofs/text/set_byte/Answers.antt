use Rattle.desk_text.proofs.Putting.{put-one-fits}
use Rattle.desk_line.proofs.text.set_byte.Goals as goal

pub returns-clause-puts : goal.returns-clause-puts
returns-clause-puts c = put-one-fits _ _ _ c.requires
