-- How a chain of tests in code meets `answer`: which lines were passed, and which one hit.
use mathlib.Core.Path.{◌≡◌, refl, sym, ap, ◌∙◌}
use mathlib.Core.Bool.{Bool, true, false, not}
use mathlib.Core.List.{List, [], ◌∷◌}
use borrow.Author.Tests.{lt-ltb, le-ltb}
use Rattle.rules.specs.declared.Record.{Record}
use Rattle.rules.specs.Calls.{Call, Reason, State, Outcome, Guard, refuse, leaving, refused, answer}

pub data Leads (s : State) (c : Call) (ok : Outcome) : List Guard → Outcome → Type 0 where
  accept : Leads s c ok [] ok
  hit : {n : Reason} {t : Bool} {ls : List Guard} → t ≡ true → Leads s c ok (refuse n t ∷ ls) (refused n s.box s c)
  skip : {n : Reason} {t : Bool} {ls : List Guard} {o : Outcome} → t ≡ false → Leads s c ok ls o → Leads s c ok (refuse n t ∷ ls) o
  hit-leaving : {n : Reason} {t : Bool} {r : Record} {ls : List Guard} → t ≡ true → Leads s c ok (leaving n t r ∷ ls) (refused n r s c)
  skip-leaving : {n : Reason} {t : Bool} {r : Record} {ls : List Guard} {o : Outcome} → t ≡ false → Leads s c ok ls o
      → Leads s c ok (leaving n t r ∷ ls) o

pub leads : {s : State} {c : Call} {ok o : Outcome} {ls : List Guard} → Leads s c ok ls o → o ≡ answer ls s c ok
unfolding answer
leads accept = refl
leads (hit e) = rw e
leads (skip e l) = rw e (leads l)
leads (hit-leaving e) = rw e
leads (skip-leaving e l) = rw e (leads l)

-- ---- a test of the code, `t`, that a contract equates with the line's `b`, or with its opposite
pub through : {b t x : Bool} → t ≡ b → t ≡ x → b ≡ x
through e h = sym e ∙ h

pub through_not : {b t x : Bool} → t ≡ b → not t ≡ x → not b ≡ x
through_not e h = ap not (sym e) ∙ h

pub ruleset tests = (through, through_not, lt-ltb, le-ltb)
