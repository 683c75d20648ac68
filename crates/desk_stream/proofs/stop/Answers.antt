-- A cut record waits where more input may come; any other is told as bad.
use Rattle.std.proofs.Common.{◌+◌, refl}
use Rattle.desk_records.specs.Reading.{cut_at}
use Rattle.desk_stream.proofs.Pieces.{stop-bad}
use Rattle.desk_stream.proofs.stop.Goals as goal

pub returns-clause-text : goal.returns-clause-text
returns-clause-text c =
    let a = c.args in
    (stop-bad (cut_at a.s.now a.at) a.last c.is_cut.ensures a.out.now c.put_bad.new.out a.filled
    c.put_bad.result (a.base + a.at) c.if-is_cut-last.false refl c.put_bad.ensures).1
