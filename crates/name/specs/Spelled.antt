-- A name as text: in its eighteen bytes, unused bytes 0.
use Rattle.std.specs.Prelude.{ℕ, ◌+◌, ◌/◌, ◌%◌, List, length, take}
use Rattle.rules.specs.Name.{eighteen}
use Rattle.name.specs.declared.text.Name.{Name}

-- the digit of a number at a place
abbrev pub digit_of : ℕ → ℕ → ℕ
digit_of n ten = 48 + n / ten % 10

unfoldable pub padded : List ℕ → Name
padded bs = record { bytes = eighteen bs; len = length bs }

-- the name's bytes
abbrev pub spelled : Name → List ℕ
spelled n = take n.len n.bytes
