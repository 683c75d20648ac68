use Rattle.desk_text.proofs.Putting.{then}
use Rattle.desk_line.proofs.put_states.Goals as goal

pub returns-clause-puts : goal.returns-clause-puts
returns-clause-puts c = rw (← c.feed_letter.ensures, ← c.scan_letter.ensures) (then c.put_letter-second.ensures.puts c.put_letter.ensures.puts)
