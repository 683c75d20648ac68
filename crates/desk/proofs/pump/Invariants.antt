-- The desk stands where steps from the outset lead to (`Reading`), and the bytes held stay inside the window.
use Rattle.std.proofs.Common.{◌≡◌, ◌≤◌, length}
use Rattle.desk_loop.specs.Program.{opened, Reaches}
use Rattle.desk.proofs.pump.Given as goal

abbrev pub invariant-loop : goal.invariant-loop
invariant-loop g l =
    (length l.ring ≡ length l.initial.ring) × (length l.buf ≡ length l.initial.buf) × (length l.out ≡ length l.initial.out)
    × (l.f.held ≤ length l.buf)
    × Reaches (opened l.initial.buf l.initial.out) (record { flow = l.f; words = l.w; ring = l.ring; window = l.buf; lines = l.out })
