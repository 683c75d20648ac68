-- After i bytes their digits stand at the front of the part.
use Rattle.std.proofs.Common.{◌*◌, take}
use Rattle.desk_text.specs.Put.{Puts}
use Rattle.desk_text.specs.Digits.{hexes}
use Rattle.desk_text.proofs.fill_hexes.Given as goal

abbrev pub invariant-loop-i : goal.invariant-loop-i
invariant-loop-i l = Puts l.fn.part 0 (hexes (take l.i l.s)) (2 * l.i) l.part
