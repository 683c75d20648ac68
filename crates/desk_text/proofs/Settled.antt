-- A text that is put at a place settles the place behind it and the buffer as it is left.
use Prim.Native.Nat.{ℕ}
use mathlib.Core.Path.{◌≡◌, sym, ◌∙◌}
use mathlib.Core.List.{List}
use Rattle.desk_text.specs.Put.{Puts}

pub puts-settled : {before t : List ℕ} {at next next' : ℕ} {after after' : List ℕ} (one : Puts before at t next after)
    (other : Puts before at t next' after') → (next ≡ next') × (after ≡ after')
puts-settled one other = (one.behind ∙ sym other.behind, one.stands ∙ sym other.stands)
