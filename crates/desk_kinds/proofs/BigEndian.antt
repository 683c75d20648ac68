-- Big-endian numbers by their bytes; a byte that is not there counts as 0.
use Prim.Native.Nat.{ℕ, ◌+◌, ◌*◌, ◌<◌}
use mathlib.Core.Path.{◌≡◌}
use mathlib.Core.List.{List}
use native.Mathlib.Omega.{arith}
use lib.ListN.{length, get_or, drop, get_or-eq_default}
use lib.Seq.{get_or-drop}
use Rattle.desk_kinds.specs.Numbers.{big_endian, byte_at, word_at, long_at}

pub byte-there : (s : List ℕ) (i : ℕ) → get_or s i 0 ≡ byte_at s i
unfolding big_endian
byte-there s i = let e : i + 0 ≡ i = omega arith in rw (get_or-drop i s 0 0, e) (omega arith)

-- of the bytes `r` from a place on
module _ (s r : List ℕ) (i x : ℕ) (f : r ≡ drop i s) where
  pub word-there : x ≡ get_or r 0 0 * 256 + get_or r 1 0 → x ≡ word_at s i
  unfolding big_endian
  word-there e = rw (← f) (simp get_or-drop (omega arith))

  pub long-there : x ≡ get_or r 0 0 * 16777216 + get_or r 1 0 * 65536 + get_or r 2 0 * 256 + get_or r 3 0 → x ≡ long_at s i
  unfolding big_endian
  long-there e = rw (← f) (simp get_or-drop (omega arith))

  pub word-cut : (a : ℕ) → length r < 2 → a ≡ byte_at r 0 → x ≡ a * 256 + 0 → x ≡ word_at s i
  word-cut a h p e = word-there (rw (get_or-eq_default r 0 {n = 1} (omega arith), byte-there r 0, ← p) e)

  pub long-cut : (a b c : ℕ) → length r < 4 → a ≡ byte_at r 0 → b ≡ byte_at r 1 → c ≡ byte_at r 2
      → x ≡ a * 16777216 + b * 65536 + c * 256 + 0 → x ≡ long_at s i
  long-cut a b c h p q t e =
      long-there (rw (get_or-eq_default r 0 {n = 3} (omega arith), byte-there r 0, byte-there r 1, byte-there r 2, ← p, ← q, ← t) e)

pub ruleset numbers = (byte-there, word-there, long-there, word-cut, long-cut)
