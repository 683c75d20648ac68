-- A second, for a box with a ring of so many bytes. What the bytes are matters to no second (`any-ring`).
use Rattle.std.specs.Prelude.{ℕ, replicate}
use Rattle.rules.specs.declared.Record.{Record}
use Rattle.rules.specs.Calls.{report, Tick, Outcome}
use Rattle.rules.specs.Machine.{step}
use Rattle.answers.specs.Told.{state_of}

abbrev pub second_of : Record → ℕ → Outcome
second_of r n = step (state_of r (replicate n 0)) (report Tick)
