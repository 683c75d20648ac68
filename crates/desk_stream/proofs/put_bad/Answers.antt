-- One text behind another.
use Rattle.desk_text.proofs.Putting.{then}
use Rattle.desk_stream.proofs.put_bad.Goals as goal

pub returns : goal.returns
returns c = then c.put_bytes-a.ensures (then c.put_decimal-b.ensures c.put_byte.ensures)
