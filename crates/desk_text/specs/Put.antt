-- A text put at a place of a lent buffer, as far as there is room.
use Rattle.std.specs.Prelude.{ℕ, ◌+◌, ◌-◌, ◌≡◌, List, ◌++◌, length, take, drop}

-- as much of a text as the buffer has room for from the place on
abbrev pub fitting : List ℕ → ℕ → List ℕ → List ℕ
fitting buffer at t = take (length buffer - at) t

-- the buffer with a text in the place of as many bytes
abbrev pub overlaid : List ℕ → ℕ → List ℕ → List ℕ
overlaid buffer at t = take at buffer ++ t ++ drop (at + length t) buffer

-- the text stands in the buffer as far as there is room, `next` is the place behind it, and every other byte is as it was
pub record Puts (before : List ℕ) (at : ℕ) (t : List ℕ) (next : ℕ) (after : List ℕ) : Type 0 where
  pub behind : next ≡ at + length (fitting before at t)
  pub stands : after ≡ overlaid before at (fitting before at t)
