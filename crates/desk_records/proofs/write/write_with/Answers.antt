-- A buffer too short, and what was put whole (`Writes`).
use Rattle.std.proofs.Common.{refl, arith}
use Rattle.desk_records.proofs.Writes.{told-603, told-0}
use Rattle.desk_records.proofs.write.write_with.Goals as goal

pub returns-then-out-need : goal.returns-then-out-need
returns-then-out-need c =
    let a = c.args in
    told-603 a.form.mark a.form.width a.kind a.body.now a.out.now c.limits.ensures c.admits.ensures
    (rw c.if-not-admits.false) (omega arith) refl

pub returns : goal.returns
returns c =
    let a = c.args in
    told-0 a.form.mark a.form.width a.kind a.body.now a.out.now c.limits.ensures c.admits.ensures (rw c.if-not-admits.false) (omega arith)
    c.put_record.ensures refl
