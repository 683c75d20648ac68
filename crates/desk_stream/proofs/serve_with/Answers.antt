-- Each turn serves one piece; every way out holds what the whole window gives (`Serving`).
use Rattle.std.proofs.Common.{ap, not}
use Rattle.desk_stream.proofs.Serving.{serving-begins, serving-full, serving-over, serving-stops, serving-again}
use Rattle.desk_stream.proofs.serve_with.Goals as goal

pub loop-came-init : goal.loop-came-init
loop-came-init c = serving-begins c.requires.lent c.requires.boxed c.told-w

pub returns-then-not-has_room : goal.returns-then-not-has_room
returns-then-not-has_room c = serving-full c.loop-came.invariant c.has_room.ensures (ap not c.if-not-has_room.true)

pub returns-then-turn-came : goal.returns-then-turn-came
returns-then-turn-came c =
    serving-stops c.loop-came.invariant c.loop-came-test.true c.has_room.ensures (ap not c.if-not-has_room.false)
    c.turn-turn.ensures.place c.turn-turn.ensures.turns c.if-turn-came.true

pub loop-came-preserved : goal.loop-came-preserved
loop-came-preserved c =
    serving-again c.loop-came.invariant c.loop-came-test.true c.has_room.ensures (ap not c.if-not-has_room.false)
    c.turn-turn.ensures.place c.turn-turn.ensures.turns c.if-turn-came.false c.turn-turn.auto.ring c.turn-turn.auto.reply

pub returns : goal.returns
returns c = serving-over c.loop-came.invariant c.loop-came-test.false
