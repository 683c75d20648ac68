-- Texts and bytes as the paper prints them, for the cases.
use Rattle.std.specs.Prelude.{ℕ, ◌+◌, ◌-◌, ◌*◌, cond, List, [], ◌∷◌, ltb, eqb}
use Prim.Native.Char.{code}
use Prim.Native.String.{String, [] as empty, ◌∷◌ as ◌then◌}

-- a text in ASCII
unfoldable pub text : String → List ℕ
text empty = []
text (c then s) = code c ∷ text s

-- the values of the digits 0 to 9 and A to F; spaces are only for the eye
unfoldable pub digits_in : List ℕ → List ℕ
digits_in [] = []
digits_in (c ∷ cs) = cond (eqb c 32) (digits_in cs) (cond (ltb c 65) (c - 48) (c - 55) ∷ digits_in cs)

-- two digits to a byte
unfoldable pub paired : List ℕ → List ℕ
paired [] = []
paired (d ∷ []) = []
paired (d ∷ e ∷ ds) = (d * 16 + e) ∷ paired ds

-- bytes in hex
unfoldable pub bytes : String → List ℕ
unfolding text digits_in paired
bytes s = paired (digits_in (text s))
