-- The room of a line: its test is made without a sum that might not fit, and says whether the line is put.
use Prim.Native.Nat.{ℕ, ◌+◌, ◌-◌, ◌≤◌, ◌<◌}
use mathlib.Core.Path.{◌≡◌, refl, sym, ◌∙◌}
use mathlib.Core.Bool.{Bool, true, false, not}
use mathlib.Core.List.{List}
use native.Mathlib.Omega.{arith}
use borrow.Author.Tests.{leb-true, leb-false, le-leb, lt-leb, not-true, not-false}
use lib.Dec.{leb}
use lib.ListN.{length}
use Rattle.desk_text.specs.Put.{Puts}
use Rattle.desk_text.proofs.Putting.{put-none}
use Rattle.desk_line.specs.Line.{line_room, roomed}

pub no_line : (filled room : ℕ) → room < line_room → false ≡ leb (filled + line_room) room
no_line filled room h = sym (lt-leb (filled + line_room) room (omega arith))

-- the test holds, or it fails
pub has_room : (b : Bool) (at room : ℕ) → b ≡ leb (at + line_room) room → not b ≡ false → at + line_room ≤ room
has_room b at room e f = leb-true (at + line_room) room (sym e ∙ not-false b f)

pub roomed-whole : (room at : ℕ) (t : List ℕ) → at + line_room ≤ room → roomed room at t ≡ t
roomed-whole room at t h = rw (le-leb (at + line_room) room h) refl

module _ (b : Bool) (o t : List ℕ) (at : ℕ) (e : b ≡ leb (at + line_room) (length o)) where
  pub roomed-line : (o₁ : List ℕ) (q : ℕ) → not b ≡ false → Puts o at t q o₁ → Puts o at (roomed (length o) at t) q o₁
  roomed-line o₁ q f p = rw (sym e ∙ not-false b f) p

  pub roomed-none : not b ≡ true → Puts o at (roomed (length o) at t) at o
  roomed-none f = rw (sym e ∙ not-true b f) (put-none o at)
