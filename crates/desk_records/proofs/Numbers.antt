-- A number in w bytes, written and read: each gives the other back.
use Prim.Native.Nat.{ℕ, zero, suc, ◌+◌, ◌*◌, ◌/◌, ◌%◌, ◌^◌, ◌≤◌, ◌<◌}
use mathlib.Core.Path.{◌≡◌, refl, sym, ap, ap₂, ◌∙◌}
use mathlib.Core.List.{List, [], ◌∷◌, ◌++◌}
use native.Mathlib.Nat.{mod-eq_of_lt, mod-one, pow-succ', mul_assoc, mul-add-div_right, mul-add-mod_self_right, one-le-pow}
use native.Mathlib.Omega.{arith}
use lib.Arith.{mod-mul, digits_lt, digits_div}
use lib.ListN.{length, take}
use Rattle.rules.specs.Promises.{All}
use Rattle.desk_kinds.specs.Numbers.{big_endian}
use Rattle.desk_records.specs.Writing.{in_bytes}

positive : (w : ℕ) → 0 < 256 ^ w
positive w = one-le-pow w 256 (omega arith)

pub length-bytes : (w n : ℕ) → length (in_bytes w n) ≡ w
unfolding in_bytes
length-bytes zero n = refl
length-bytes (suc w) n = ap suc (length-bytes w n)

-- ---- written, and then read, whatever stands behind
pub number-bytes : (w n : ℕ) (r : List ℕ) → big_endian w (in_bytes w n ++ r) ≡ n % 256 ^ w
unfolding big_endian in_bytes
number-bytes zero n r = sym (mod-one n)
number-bytes (suc w) n r = rw (number-bytes w n r, pow-succ') (sym (mod-mul n {m = 256} {c = 256 ^ w} (omega arith) (positive w)))

-- ---- read, and then written
abbrev pub Byte : ℕ → Type 0
Byte b = b < 256

number-less : (w : ℕ) (s : List ℕ) → w ≤ length s → All Byte (take w s) → big_endian w s < 256 ^ w
unfolding big_endian
number-less zero s h a = positive 0
number-less (suc w) [] h a = absurd (omega arith)
number-less (suc w) (b ∷ s) h a = rw pow-succ' (digits_lt {q = b} {m = 256} {c = 256 ^ w} a.0 (number-less w s (omega arith) a.1))

-- w bytes hold a number's last w digits
last_digits : (w c n : ℕ) → in_bytes w (c * 256 ^ w + n) ≡ in_bytes w n
unfolding in_bytes
last_digits zero c n = refl
last_digits (suc w) c n =
    let e : c * 256 ^ suc w ≡ c * 256 * 256 ^ w = rw pow-succ' (sym (mul_assoc c 256 (256 ^ w))) in
    rw (e, mul-add-div_right (positive w) (c * 256) n, mul-add-mod_self_right c 256 (n / 256 ^ w), last_digits w (c * 256) n)

pub bytes-number : (w : ℕ) (s : List ℕ) → w ≤ length s → All Byte (take w s) → in_bytes w (big_endian w s) ≡ take w s
unfolding big_endian in_bytes
bytes-number zero s h a = refl
bytes-number (suc w) [] h a = absurd (omega arith)
bytes-number (suc w) (b ∷ s) h a =
    let l = number-less w s (omega arith) a.1 in
    ap₂ (λ (x : ℕ) (xs : List ℕ). x ∷ xs) (ap (λ (x : ℕ). x % 256) (digits_div b l) ∙ mod-eq_of_lt a.0)
    (last_digits w b (big_endian w s) ∙ bytes-number w s (omega arith) a.1)
