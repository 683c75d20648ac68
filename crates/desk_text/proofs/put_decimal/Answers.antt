use Rattle.desk_text.proofs.Putting.{digits-one}
use Rattle.desk_text.proofs.put_decimal.Goals as goal

pub returns-then-n-lt10 : goal.returns-then-n-lt10
returns-then-n-lt10 c = digits-one c.if-n-lt10.true c.put_byte.ensures
