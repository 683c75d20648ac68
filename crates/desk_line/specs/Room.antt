-- The room that each part of a line may take, with all the digits that a number may have. Head, counts, extra and the newline are
-- 625 bytes together, no more than `line_room`.
use Rattle.std.specs.Prelude.{ℕ, ◌+◌, ◌*◌}
use Rattle.desk_text.specs.Digits.{most_digits}

-- ---- columns, each with the space behind it
abbrev pub letter_room : ℕ
letter_room = 2

abbrev pub kind_room : ℕ
kind_room = 3

abbrev pub number_room : ℕ
number_room = most_digits + 1

abbrev pub states_room : ℕ
states_room = letter_room + letter_room

abbrev pub head_room : ℕ
head_room = kind_room + number_room + states_room

-- SideCount with its minus, and no space behind it
abbrev pub count_room : ℕ
count_room = 1 + most_digits

abbrev pub counts_room : ℕ
counts_room = number_room + number_room + count_room + 1

-- ---- the extra
-- the longest FailureCode, Timeout
abbrev pub failure_room : ℕ
failure_room = 7

-- how many bytes a fetch may move, since k is a byte
abbrev pub picture_bytes : ℕ
picture_bytes = 255

-- k, and `!` if last
abbrev pub moved_room : ℕ
moved_room = most_digits + 1

-- a fetch has the longest: k, `!`, `:`, bytes
abbrev pub extra_room : ℕ
extra_room = moved_room + 1 + 2 * picture_bytes
