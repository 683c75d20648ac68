-- How a test in code meets a `cond` of a definition: the code's test may be another Bool, equal to the definition's.
use Prim.Native.Nat.{ℕ, ◌<◌, ◌≤◌}
use mathlib.Core.Path.{◌≡◌, refl, sym, ap, ◌∙◌}
use mathlib.Core.Bool.{Bool, true, false, not, cond, true≢false, false≢true}
use borrow.Author.Tests.{lt-ltb, le-ltb, le-leb, lt-leb, eq-eqb, ne_eqb}
use lib.Dec.{leb, ltb, eqb}

module _ {ℓ} {A : Type ℓ} where
  -- `if t { .. } else { .. }`
  pub then-arm : (b t : Bool) (r x y : A) → t ≡ b → t ≡ true → r ≡ x → r ≡ cond b x y
  then-arm b t r x y e n p = p ∙ ap (λ (s : Bool). cond s x y) (sym n ∙ e)

  pub else_arm : (b t : Bool) (r x y : A) → t ≡ b → t ≡ false → r ≡ y → r ≡ cond b x y
  else_arm b t r x y e n p = p ∙ ap (λ (s : Bool). cond s x y) (sym n ∙ e)

  -- `if !t { return r; }`, taken and passed
  pub stop : (b t : Bool) (r x y : A) → t ≡ b → not t ≡ true → r ≡ y → r ≡ cond b x y
  stop b true r x y e n p = absurd (false≢true n)
  stop b false r x y e n p = else_arm b false r x y e refl p

  pub pass : (b t : Bool) (r x y : A) → t ≡ b → not t ≡ false → r ≡ x → r ≡ cond b x y
  pass b true r x y e n p = then-arm b true r x y e refl p
  pass b false r x y e n p = absurd (true≢false n)

  -- a test on numbers
  pub lt-then : (a b : ℕ) (r x y : A) → a < b → r ≡ x → r ≡ cond (ltb a b) x y
  lt-then a b r x y h p = then-arm (ltb a b) (ltb a b) r x y refl (lt-ltb a b h) p

  pub lt-else : (a b : ℕ) (r x y : A) → b ≤ a → r ≡ y → r ≡ cond (ltb a b) x y
  lt-else a b r x y h p = else_arm (ltb a b) (ltb a b) r x y refl (le-ltb a b h) p

  pub le_then : (a b : ℕ) (r x y : A) → a ≤ b → r ≡ x → r ≡ cond (leb a b) x y
  le_then a b r x y h p = then-arm (leb a b) (leb a b) r x y refl (le-leb a b h) p

  pub le-else : (a b : ℕ) (r x y : A) → b < a → r ≡ y → r ≡ cond (leb a b) x y
  le-else a b r x y h p = else_arm (leb a b) (leb a b) r x y refl (lt-leb a b h) p

  pub eq-then : (a b : ℕ) (r x y : A) → a ≡ b → r ≡ x → r ≡ cond (eqb a b) x y
  eq-then a b r x y h p = then-arm (eqb a b) (eqb a b) r x y refl (eq-eqb a b h) p

  pub eq-else : (a b : ℕ) (r x y : A) → (a ≡ b → ⊥) → r ≡ y → r ≡ cond (eqb a b) x y
  eq-else a b r x y h p = else_arm (eqb a b) (eqb a b) r x y refl (ne_eqb a b h) p

-- what a test that let the call go on says of the definition's
pub went_on : (b t : Bool) → t ≡ b → not t ≡ false → b ≡ true
went_on b true e n = sym e
went_on b false e n = absurd (true≢false n)

pub stopped-at : (b t : Bool) → t ≡ b → not t ≡ true → b ≡ false
stopped-at b true e n = absurd (false≢true n)
stopped-at b false e n = sym e

pub ruleset guards = (stop, pass, then-arm, else_arm)

pub ruleset numbers = (lt-then, lt-else, le_then, le-else, eq-then, eq-else)
