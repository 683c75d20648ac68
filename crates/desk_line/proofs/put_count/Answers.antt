-- Below 0, a minus before the rest.
use Rattle.std.proofs.Common.{arith, sym, ◌∙◌}
use borrow.Author.Tests.{le-ltb}
use Rattle.desk_text.proofs.Putting.{then}
use Rattle.desk_line.proofs.Count.{negative-high, negative-rest}
use Rattle.desk_line.proofs.put_count.Goals as goal

pub returns-then-signed-lt0-clause-puts : goal.returns-then-signed-lt0-clause-puts
returns-then-signed-lt0-clause-puts c =
    let high = negative-high c.args.count _ (omega arith) c.cast_signed-signed.ensures c.if-signed-lt0.true in
    let rest = negative-rest c.args.count _ (omega arith) c.cast_signed-signed.ensures c.if-signed-lt0.true in
    rw (le-ltb c.args.count 2147483648 high, rest ∙ sym c.unsigned_abs.ensures.value ∙ sym c.from.ensures)
    (then c.set_byte-digits.ensures.puts c.set_decimal.ensures.puts)
