-- One part behind the other.
use Rattle.desk_text.proofs.Putting.{then}
use Rattle.desk_line.proofs.extra.put_tray.Goals as goal

pub returns-clause-puts : goal.returns-clause-puts
returns-clause-puts c =
    rw (← c.from.ensures) (then c.set_decimal-colon.ensures.puts (then c.set_byte-next.ensures.puts c.put_failure.ensures.puts))
