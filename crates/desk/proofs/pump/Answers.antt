-- Steps from the outset (`Reading`), one more behind each turn, and room before each read.
use Rattle.std.proofs.Common.{rules, refl}
use Rattle.std.proofs.lemmas.Result.{IfOk-at_ok}
use Rattle.desk_loop.proofs.Printing.{room-to-read}
use Rattle.desk_loop.specs.Program.{goes_on}
use Rattle.desk.proofs.Reading.{at-outset}
use Rattle.desk.proofs.pump.Goals as goal

pub loop-init : goal.loop-init
loop-init g c =
    (refl, refl, refl, search rules, at-outset c.args.buf.now c.args.out.now c.begin-f.ensures c.requires.fresh_box c.requires.paper_ring)

pub advance-requires-clause-room_to_read : goal.advance-requires-clause-room_to_read
advance-requires-clause-room_to_read g c w =
    room-to-read c.args.buf.now c.args.out.now c.requires.window_roomy c.requires.lines_roomy c.loop.invariant.4
    c.if-f.false w

pub loop-preserved : goal.loop-preserved
loop-preserved g c = (
  search rules,
  search rules,
  search rules,
  IfOk-at_ok _ c.in_ok-f.ensures c.advance.ensures.still_within,
  goes_on c.loop.invariant.4 c.if-f.false (IfOk-at_ok _ c.in_ok-f.ensures c.advance.ensures.stepped),
)
