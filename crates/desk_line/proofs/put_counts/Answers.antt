-- One part behind the other.
use Rattle.desk_text.proofs.Putting.{then}
use Rattle.desk_line.proofs.put_counts.Goals as goal

pub returns-clause-puts : goal.returns-clause-puts
returns-clause-puts c =
    rw (← c.from.ensures, ← c.from-2.ensures)
    (then (then (then c.put_number-second.ensures.puts c.put_number-third.ensures.puts) c.put_count-space.ensures.puts) c.set_byte.ensures.puts)
