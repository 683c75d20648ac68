-- One part behind the other.
use Rattle.desk_text.proofs.Putting.{then}
use Rattle.desk_line.proofs.put_head.Goals as goal

pub returns-clause-puts : goal.returns-clause-puts
returns-clause-puts c =
    rw (← c.from.ensures) (then (then c.put_kind-second.ensures.puts c.put_number-third.ensures.puts) c.put_states.ensures.puts)
