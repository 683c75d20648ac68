-- A list of calls performed one after the other.
use Rattle.std.specs.Prelude.{◌≡◌, List, [], ◌∷◌}
use Rattle.rules.specs.Calls.{Call, State, Outcome}
use Rattle.rules.specs.Machine.{step}

-- each gets the record and ring as the last one left them; what one call gave and left, `o`, is what the contracts say of it
pub data Performed : State → List Call → List Outcome → State → Type 0 where
  performed-none : {s : State} → Performed s [] [] s
  performed-one : {s t : State} {c : Call} {o : Outcome} {cs : List Call} {os : List Outcome} → o ≡ step s c → Performed o.state cs os t
      → Performed s (c ∷ cs) (o ∷ os) t
