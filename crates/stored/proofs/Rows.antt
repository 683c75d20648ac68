-- Numbers written in a row.
use Prim.Native.Nat.{ℕ, suc, ◌+◌}
use mathlib.Core.Path.{◌≡◌, refl, ap, ◌∙◌}
use mathlib.Core.List.{List, [], ◌∷◌}
use native.Mathlib.Omega.{arith}
use lib.ListN.{length, set}
use Rattle.stored.specs.Stored.{written}

behind : (at : ℕ) (ns : List ℕ) (w : ℕ) (ws : List ℕ) → written (suc at) ns (w ∷ ws) ≡ w ∷ written at ns ws
behind at [] w ws = refl
behind at (n ∷ ns) w ws =
    let on : suc at + 1 ≡ suc (at + 1) = omega arith in
    ap (λ (k : ℕ). written k ns (w ∷ set ws at n)) on ∙ behind (at + 1) ns w (set ws at n)

-- a row as long as what it is written over is all there is
pub row-whole : (ns ws : List ℕ) → length ws ≡ length ns → written 0 ns ws ≡ ns
row-whole [] [] e = refl
row-whole [] (w ∷ ws) e = absurd (omega (arith, e))
row-whole (n ∷ ns) [] e = absurd (omega (arith, e))
row-whole (n ∷ ns) (w ∷ ws) e = behind 0 ns n ws ∙ ap (λ (l : List ℕ). n ∷ l) (row-whole ns ws (omega (arith, e)))
