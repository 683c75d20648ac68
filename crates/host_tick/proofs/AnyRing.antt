-- What a ring's bytes are matters to no second: the one test reads only how many they are, and either answer leaves the ring as it was.
use Prim.Native.Nat.{ℕ}
use mathlib.Core.Path.{◌≡◌, refl}
use mathlib.Core.Bool.{Bool, true, false}
use mathlib.Core.List.{List, [], ◌∷◌}
use lib.ListN.{length, length-replicate}
use Rattle.rules.specs.declared.Record.{Record}
use Rattle.rules.specs.Moves.{ticked}
use Rattle.rules.specs.Calls.{Outcome, answer, refuse, n604, nothing, report, Tick}
use Rattle.rules.specs.Machine.{step, refusals, report_refusals, effect, report_effect, accepted}
use Rattle.answers.specs.Told.{state_of}
use Rattle.host_tick.specs.Second.{second_of}

-- the answer to a Tick, given how the test comes out
abbrev given : Bool → Record → List ℕ → Outcome
given unsound r ring = answer (refuse n604 unsound ∷ []) (state_of r ring) (report Tick) (accepted nothing (ticked r) (state_of r ring))

alike : (unsound : Bool) (r : Record) (ring other : List ℕ)
    → ((given unsound r ring).number ≡ (given unsound r other).number) × ((given unsound r ring).state ≡ state_of (given unsound r other).state.box ring)
unfolding answer
alike true r ring other = (refl, refl)
alike false r ring other = (refl, refl)

pub any-ring : (r : Record) (ring : List ℕ)
    → ((step (state_of r ring) (report Tick)).number ≡ (second_of r (length ring)).number)
    × ((step (state_of r ring) (report Tick)).state ≡ state_of (second_of r (length ring)).state.box ring)
unfolding step refusals report_refusals effect report_effect
any-ring r ring = rw (length-replicate {A = ℕ} (length ring) 0) (alike _ r ring _)
