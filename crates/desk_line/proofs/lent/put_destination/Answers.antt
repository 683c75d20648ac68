-- One part behind the other.
use Rattle.desk_text.proofs.Putting.{then}
use Rattle.desk_line.proofs.lent.put_destination.Goals as goal

pub returns-clause-puts : goal.returns-clause-puts
returns-clause-puts c =
    rw (← c.from.ensures) (then c.put_name-colon.ensures.puts (then c.set_byte-next.ensures.puts c.set_decimal.ensures.puts))
