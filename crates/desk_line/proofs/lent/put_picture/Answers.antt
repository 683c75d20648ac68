-- The bytes behind the count.
use Rattle.std.proofs.Common.{ℕ, take, drop, ap, ◌∙◌, arith}
use Rattle.rules.specs.Moves.{headed}
use Rattle.desk_text.proofs.Putting.{then, put-most, length-hexes}
use Rattle.desk_line.proofs.Lines.{picture-short}
use Rattle.desk_line.proofs.lent.put_picture.Goals as goal

pub returns-clause-puts : goal.returns-clause-puts
returns-clause-puts c =
    let bytes = c.picture.ensures ∙ ap (λ (n : ℕ). take n (drop headed c.args.reply.now)) c.from.ensures in
    rw (← bytes) (then c.put_moved-colon.ensures.puts (then c.set_byte-next.ensures.puts c.put_hexes.ensures))

pub returns-clause-inside : goal.returns-clause-inside
returns-clause-inside c =
    omega (
      arith,
      put-most c.put_hexes.ensures,
      length-hexes c.picture.result.now,
      picture-short _ c.args.reply.now c.from.result c.picture.ensures,
      c.from.ensures,
    )
