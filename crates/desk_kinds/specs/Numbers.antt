-- The numbers in a record: big-endian, SideCount in two's complement.
use Rattle.std.specs.Prelude.{ℕ, zero, suc, ◌+◌, ◌*◌, ◌^◌, cond, List, ltb, get_or, drop}

-- the number in the first w bytes; a byte that is not there counts as 0
unfoldable pub big_endian : ℕ → List ℕ → ℕ
big_endian zero s = 0
big_endian (suc w) s = get_or s 0 0 * 256 ^ w + big_endian w (drop 1 s)

-- a number of one, two or four bytes at a place
abbrev pub byte_at : List ℕ → ℕ → ℕ
byte_at s i = big_endian 1 (drop i s)

abbrev pub word_at : List ℕ → ℕ → ℕ
word_at s i = big_endian 2 (drop i s)

abbrev pub long_at : List ℕ → ℕ → ℕ
long_at s i = big_endian 4 (drop i s)

-- the 16 bits of SideCount's two's complement, as the 32 that the record keeps: from 0x8000 on the number is below 0
abbrev pub extended : ℕ → ℕ
extended c = cond (ltb c 0x8000) c (c + 0xFFFF0000)
