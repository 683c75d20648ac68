-- The digits of the bytes so far stand, and `next` is the place behind them.
use Rattle.std.proofs.Common.{take}
use Rattle.desk_text.specs.Put.{Puts}
use Rattle.desk_text.specs.Digits.{hexes}
use Rattle.desk_text.proofs.cut_hexes.Given as goal

abbrev pub invariant-loop-b : goal.invariant-loop-b
invariant-loop-b l = Puts l.fn.out l.at (hexes (take l.b-index l.s)) l.next l.out
