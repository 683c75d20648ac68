use Rattle.desk_text.proofs.Putting.{hexes-none, hexes-more, hexes-all}
use Rattle.desk_text.proofs.cut_hexes.Goals as goal

pub loop-b-init : goal.loop-b-init
loop-b-init c = hexes-none c.args.out.now c.args.s.now c.args.at

pub loop-b-preserved : goal.loop-b-preserved
loop-b-preserved c = hexes-more _ _ _ _ _ _ _ _ c.loop-b-test.true c.loop-b.invariant c.put_hex-next.ensures

pub returns : goal.returns
returns c = hexes-all _ _ _ _ _ _ c.loop-b-test.false c.loop-b.invariant
