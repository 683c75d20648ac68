-- A contract for every ring settles the second: there is a ring of every length, and of a sound record the one that it is sound with.
use Prim.Native.Nat.{ℕ}
use mathlib.Core.Path.{◌≡◌}
use mathlib.Core.Bool.{true}
use mathlib.Core.List.{List, []}
use lib.ListN.{length, replicate, length-replicate}
use Rattle.rules.specs.declared.Record.{Record}
use Rattle.rules.specs.Record.{sound}
use Rattle.rules.specs.Calls.{report, Tick}
use Rattle.rules.specs.Machine.{step}
use Rattle.answers.specs.Told.{After, state_of, gave}
use Rattle.answers.proofs.Settled.{call_settled}

-- for a record and a ring's length
pub tick-in-settled : (r : Record) (n : ℕ) {a b : After}
    (one : (ring : List ℕ) → length ring ≡ n → gave a ring [] ≡ step (state_of r ring) (report Tick))
    (other : (ring : List ℕ) → length ring ≡ n → gave b ring [] ≡ step (state_of r ring) (report Tick)) → a ≡ b
tick-in-settled r n one other =
    let zeros : List ℕ = replicate n 0 in
    let long = length-replicate {A = ℕ} n 0 in
    (call_settled (state_of r zeros) (report Tick) (one zeros long) (other zeros long)).0

-- for a record that is sound with some ring
pub tick-sound-settled : (r : Record) (lent : List ℕ) (so : sound r (length lent) ≡ true) {a b : After}
    (one : (ring : List ℕ) → sound r (length ring) ≡ true → gave a ring [] ≡ step (state_of r ring) (report Tick))
    (other : (ring : List ℕ) → sound r (length ring) ≡ true → gave b ring [] ≡ step (state_of r ring) (report Tick)) → a ≡ b
tick-sound-settled r lent so one other = (call_settled (state_of r lent) (report Tick) (one lent so) (other lent so)).0
