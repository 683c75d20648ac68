-- Numbers that are a box: they fit, and their record is sound.
use Prim.Native.Nat.{ℕ}
use mathlib.Core.Path.{◌≡◌, sym, ap, ◌∙◌}
use mathlib.Core.Bool.{Bool, true, ◌&&◌}
use mathlib.Core.List.{List}
use Rattle.rules.specs.declared.Record.{Record}
use Rattle.rules.specs.Record.{sound}
use Rattle.rules.proofs.Choice.{and_l, and_r}
use Rattle.stored.specs.Stored.{all_fit, recorded, is_box}

pub box-fits : (ws : List ℕ) (n : ℕ) → is_box ws n ≡ true → all_fit ws ≡ true
unfolding is_box
box-fits ws n b = and_l (all_fit ws) (sound (recorded ws) n) b

pub box-sound : (ws : List ℕ) (n : ℕ) → is_box ws n ≡ true → sound (recorded ws) n ≡ true
unfolding is_box
box-sound ws n b = and_r (all_fit ws) (sound (recorded ws) n) b

pub boxed : (ws : List ℕ) (n : ℕ) → all_fit ws ≡ true → sound (recorded ws) n ≡ true → is_box ws n ≡ true
unfolding is_box
boxed ws n f s = ap (λ (b : Bool). b && sound (recorded ws) n) f ∙ s

-- whether numbers are a box
pub as-sound : (ws : List ℕ) (n : ℕ) {r : Record} {b : Bool} → all_fit ws ≡ true → r ≡ recorded ws → b ≡ sound r n → b ≡ is_box ws n
unfolding is_box
as-sound ws n f e s = s ∙ ap (λ (x : Record). sound x n) e ∙ sym (ap (λ (x : Bool). x && sound (recorded ws) n) f)
