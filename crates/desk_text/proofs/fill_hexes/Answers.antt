use Rattle.desk_text.proofs.Putting.{hexes-none, fill_more, fill-all}
use Rattle.desk_text.proofs.fill_hexes.Goals as goal

pub loop-i-init : goal.loop-i-init
loop-i-init c = hexes-none c.args.part.now c.args.s.now 0

pub loop-i-preserved : goal.loop-i-preserved
loop-i-preserved c =
    fill_more _ _ _ _ _ _ c.requires c.loop-i-test.true c.hex_digit.ensures c.hex_digit-in-loop-i.ensures c.loop-i.invariant

pub returns : goal.returns
returns c = fill-all _ _ _ _ c.requires c.loop-i-test.false c.loop-i.invariant
