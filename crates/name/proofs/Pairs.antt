-- A name's bytes two at a time: the digits of a job above a place are those of the job divided by it.
use Prim.Native.Nat.{ℕ, ◌+◌, ◌*◌, ◌/◌, ◌%◌, ◌^◌, ◌<◌}
use mathlib.Core.Path.{◌≡◌, refl, sym, ◌∙◌, ap}
use mathlib.Core.List.{[], ◌∷◌}
use native.Mathlib.Omega.{arith}
use native.Mathlib.Nat.{div-one, div-div-eq-div-mul, div-lt_iff_lt-mul, mod-eq_of_lt}
use Rattle.rules.specs.Name.{packed}
use Rattle.name.specs.Spelled.{digit_of}

abbrev pub two : ℕ → ℕ
two n = packed (digit_of n 10 ∷ digit_of n 1 ∷ [])

-- the two digits at a place, by their own places
tens : (n place ten : ℕ) → place * 10 ≡ ten → digit_of (n / place) 10 ≡ digit_of n ten
tens n place ten e = ap (λ (x : ℕ). 48 + x % 10) (div-div-eq-div-mul n place 10 ∙ ap (λ (x : ℕ). n / x) e)

ones : (n place : ℕ) → digit_of (n / place) 1 ≡ digit_of n place
ones n place = ap (λ (x : ℕ). 48 + x % 10) (div-one (n / place))

pub at_place : (n place ten : ℕ) → place * 10 ≡ ten → two (n / place) ≡ packed (digit_of n ten ∷ digit_of n place ∷ [])
at_place n place ten e = rw (tens n place ten e, ones n place)

-- ---- the three numbers, from the pairs
pub front-is : (job : ℕ) {b c d n : ℕ} → job < 2 ^ 32 → b ≡ two (job / 10000000) → c ≡ two (job / 100000) → d ≡ two (job / 1000)
    → n ≡ (18992 + job / 1000000000) * 281474976710656 + b * 4294967296 + c * 65536 + d
    → n ≡ packed (74 ∷ digit_of job 1000000000 ∷ digit_of job 100000000 ∷ digit_of job 10000000 ∷ digit_of job 1000000
    ∷ digit_of job 100000 ∷ digit_of job 10000 ∷ digit_of job 1000 ∷ [])
front-is job l b c d e =
    let top : job / 1000000000 % 10 ≡ job / 1000000000 = mod-eq_of_lt ((div-lt_iff_lt-mul (omega arith)).1 (omega (arith, l))) in
    omega (arith, top, b ∙ at_place job 10000000 100000000 refl, c ∙ at_place job 100000 1000000 refl, d ∙ at_place job 1000 10000 refl, e)

module _ (job : ℕ) {next last : ℕ} (a : next ≡ two (job / 10)) (b : last ≡ 48 + job % 10) where
  low : 48 + job % 10 ≡ digit_of job 1
  low = ap (λ (x : ℕ). 48 + x % 10) (sym (div-one job))

  pub with-side : (side : ℕ) {hundreds p n : ℕ} → hundreds ≡ 48 + side / 100 % 10 → p ≡ two side
      → n ≡ next * 281474976710656 + (last * 256 + hundreds) * 4294967296 + p * 65536 + 11882
      → n ≡ packed (digit_of job 100 ∷ digit_of job 10 ∷ digit_of job 1 ∷ digit_of side 100 ∷ digit_of side 10 ∷ digit_of side 1 ∷ 46 ∷ 106 ∷ [])
  with-side side h p e = omega (arith, a ∙ at_place job 10 100 refl, b ∙ low, h, p, e)

  pub without-side : {n : ℕ} → n ≡ next * 281474976710656 + (last * 256 + 46) * 4294967296 + 27248 * 65536 + 26368
      → n ≡ packed (digit_of job 100 ∷ digit_of job 10 ∷ digit_of job 1 ∷ 46 ∷ 106 ∷ 112 ∷ 103 ∷ 0 ∷ [])
  without-side e = omega (arith, a ∙ at_place job 10 100 refl, b ∙ low, e)
