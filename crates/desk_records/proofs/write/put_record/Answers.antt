-- One text behind the other.
use Rattle.desk_text.proofs.Putting.{then}
use Rattle.desk_records.proofs.write.put_record.Goals as goal

pub returns : goal.returns
returns c = then (then (then (then c.put_byte-a.ensures c.put_byte-b.ensures) c.put_byte-c.ensures) c.put_number-d.ensures) c.put_bytes.ensures
