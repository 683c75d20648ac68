-- SideCount read as a signed number: below 0, it is at least half of what 32 bits hold, and its size is the rest.
use Prim.Native.Nat.{ℕ, suc, ◌-◌, ◌^◌, ◌<◌, ◌≤◌}
use mathlib.Core.Path.{◌≡◌, refl, sym, ap, ◌∙◌}
use mathlib.Core.Bool.{Bool, true, false}
use native.Mathlib.Omega.{arith}
use borrow.Author.Tests.{ltb-true, ltb-false}
use lib.Dec.{ltb}
use lib.IntN.{ℤ, pos, negsuc, nat_abs}
use lib.Signed.{lt_z}
use mir.Syntax.{w32}
use mir.Val.{to_z, of_z, bits}
use Rattle.std.proofs.lemmas.Int.{to_z_pos, of_z-to_z}
use mir.ValLaws.{to_z-neg}

high-signed : (c : ℕ) → c < 4294967296 → 2147483648 ≤ c → to_z w32 c ≡ negsuc (4294967295 - c)
high-signed c h l =
    let k = 4294967295 - c in
    let back : 2 ^ bits w32 - suc k ≡ c = omega arith in
    sym (ap (to_z w32) back) ∙ to_z-neg w32 k (omega arith)

-- the number as a call passes it
module _ (c : ℕ) (s : ℤ) (h : c < 4294967296) (e : s ≡ to_z w32 c) (l : lt_z (to_z w32 (of_z w32 s)) (pos 0) ≡ true) where
  passed : to_z w32 (of_z w32 s) ≡ to_z w32 c
  passed = ap (λ (z : ℤ). to_z w32 (of_z w32 z)) e ∙ ap (to_z w32) (of_z-to_z w32 c h)

  pub negative-high : 2147483648 ≤ c
  negative-high = by-test (ltb c 2147483648) refl
    where
      by-test : (b : Bool) → ltb c 2147483648 ≡ b → 2147483648 ≤ c
      by-test true t =
          let low : c < 2147483648 = ltb-true c 2147483648 t in
          let z : to_z w32 c ≡ pos c = to_z_pos w32 c low in
          let below : lt_z (pos c) (pos 0) ≡ true = rw (passed, z) at l in
          absurd (omega (arith, ltb-true c 0 below))
      by-test false t = ltb-false c 2147483648 t

  pub negative-rest : 4294967296 - c ≡ nat_abs (to_z w32 (of_z w32 s))
  negative-rest =
      let z : to_z w32 (of_z w32 s) ≡ negsuc (4294967295 - c) = passed ∙ high-signed c h negative-high in
      rw z (omega (arith, negative-high))
