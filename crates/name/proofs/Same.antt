-- The definition's comparison of bytes is the library's.
use Prim.Native.Nat.{ℕ}
use mathlib.Core.Path.{◌≡◌, refl, ap}
use mathlib.Core.Bool.{Bool, ◌&&◌}
use mathlib.Core.List.{List, [], ◌∷◌}
use lib.Dec.{eqb}
use Rattle.std.specs.Str.{bytes_eq}
use Rattle.rules.specs.Name.{same}

pub same-is : (a b : List ℕ) → bytes_eq a b ≡ same a b
same-is [] [] = refl
same-is [] (y ∷ ys) = refl
same-is (x ∷ xs) [] = refl
same-is (x ∷ xs) (y ∷ ys) = ap (λ (t : Bool). eqb x y && t) (same-is xs ys)
