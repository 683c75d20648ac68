-- Each turn serves one piece; what is served from here on is what the whole window gives.
use Rattle.std.proofs.Common.{◌-◌, length}
use Rattle.desk_stream.proofs.Serving.{Serving}
use Rattle.desk_stream.proofs.serve_with.Given as goal

abbrev pub invariant-loop-came : goal.invariant-loop-came
invariant-loop-came l =
    Serving l.s l.base l.last l.initial.w l.initial.ring l.initial.reply l.initial.out l.w l.ring l.reply l.out l.came.read l.came.written l.came.ended

abbrev pub decreases-loop-came : goal.decreases-loop-came
decreases-loop-came l = length l.s - l.came.read
