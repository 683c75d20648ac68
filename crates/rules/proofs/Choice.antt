-- Booleans, and what holds of a choice.
use Prim.Native.Nat.{ℕ}
use mathlib.Core.Path.{◌≡◌, refl, sym, ◌∙◌}
use mathlib.Core.Bool.{Bool, true, false, ◌&&◌, ◌||◌, cond, true≢false, false≢true}
use mathlib.Core.Option.{Option, none, some}
use Rattle.rules.specs.Record.{implies, exactly}

-- a choice has a property where both of its sides have it
pub choice : {A : Type 0} (P : A → Type 0) (t : Bool) {x y : A} → (t ≡ true → P x) → (t ≡ false → P y) → P (cond t x y)
choice P true f g = f refl
choice P false f g = g refl

pub clash : {A : Type 0} {t : Bool} → t ≡ true → t ≡ false → A
clash p q = absurd (true≢false (sym p ∙ q))

pub exactly-eq : (a b : Bool) → exactly a b ≡ true → a ≡ b
exactly-eq true true e = refl
exactly-eq true false e = sym e
exactly-eq false true e = e
exactly-eq false false e = refl

pub eq-exactly : (a b : Bool) → a ≡ b → exactly a b ≡ true
eq-exactly true true e = refl
eq-exactly true false e = sym e
eq-exactly false true e = e
eq-exactly false false e = refl

pub implied : (a b : Bool) → b ≡ true → implies a b ≡ true
implied true b e = e
implied false b e = refl

pub vacuous : (a b : Bool) → a ≡ false → implies a b ≡ true
vacuous a b e = rw e

pub modus : (a b : Bool) → implies a b ≡ true → a ≡ true → b ≡ true
modus true b h e = h
modus false b h e = absurd (false≢true e)

pub tollens : (a b : Bool) → implies a b ≡ true → b ≡ false → a ≡ false
tollens true b h e = absurd (true≢false (sym h ∙ e))
tollens false b h e = refl

pub or_l : (a b : Bool) → (a || b) ≡ false → a ≡ false
or_l true b e = e
or_l false b e = refl

pub or_r : (a b : Bool) → (a || b) ≡ false → b ≡ false
or_r true b e = absurd (true≢false e)
or_r false b e = e

pub and_l : (a b : Bool) → (a && b) ≡ true → a ≡ true
and_l true b e = refl
and_l false b e = absurd (false≢true e)

pub and_r : (a b : Bool) → (a && b) ≡ true → b ≡ true
and_r true b e = e
and_r false b e = absurd (false≢true e)

pub and-not : (a b : Bool) → (a && b) ≡ false → a ≡ true → b ≡ false
and-not true b h e = h
and-not false b h e = absurd (false≢true e)

-- something is there
abbrev pub opened : Option ℕ → Bool
opened none = false
opened (some t) = true
