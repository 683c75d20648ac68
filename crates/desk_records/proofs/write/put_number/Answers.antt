-- The two bytes are the last of the number's eight.
use Rattle.desk_records.proofs.Writes.{put_two}
use Rattle.desk_records.proofs.write.put_number.Goals as goal

pub returns : goal.returns
returns c =
    let e = c.to_be_bytes.ensures in
    put_two _ _ c.if-form-eq1.false c.args.form.one_or_two (rw e at c.put_byte-next.ensures) (rw e at c.put_byte-2.ensures)
